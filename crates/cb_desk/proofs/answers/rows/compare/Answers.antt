use Rattle.std.proofs.Common.{◌≡◌, ◌≢◌, ◌∙◌, sym, ap, refl, nat_cmp, Ordering, Less, Equal, Greater}
use Rattle.std.specs.Cmp.Lexicographic.{slice_cmp}
use Rattle.std.specs.Ordering.{ordering_then}
use Rattle.cb_desk.proofs.PlaceOrder.{cmp-places}
use Rattle.cb_desk.proofs.answers.rows.compare.Goals as goal

-- an order that is not equal decides
first-decides : (o p : Ordering) → o ≢ Equal → ordering_then o p ≡ o
first-decides Less p other = refl
first-decides Equal p other = absurd (other refl)
first-decides Greater p other = refl

pub returns-in-Equal : goal.returns-in-Equal
returns-in-Equal c =
    let file = c.args.file.now in
    let row = c.args.row.now in
    let same : slice_cmp nat_cmp file row.file.now ≡ Equal = sym c.cmp.ensures ∙ c.in-Equal.is in
    c.cmp-in-Equal.ensures
    ∙ sym (cmp-places file row.file.now c.args.line row.line
    ∙ ap (λ o. ordering_then o (nat_cmp c.args.line row.line)) same)

pub returns-in_default : goal.returns-in_default
returns-in_default c =
    let file = c.args.file.now in
    let row = c.args.row.now in
    c.cmp.ensures
    ∙ sym (cmp-places file row.file.now c.args.line row.line
    ∙ first-decides (slice_cmp nat_cmp file row.file.now) _
    (λ e. c.in_default.not-Equal (c.cmp.ensures ∙ e)))
