use Rattle.std.proofs.Common.{◌≡◌, ◌≢◌, ◌∙◌, sym, ap, refl, nat_cmp, Ordering, Less, Equal, Greater}
use Rattle.std.specs.Cmp.Lexicographic.{slice_cmp}
use Rattle.std.specs.Ordering.{ordering_then}
use Rattle.cb_index.specs.Archived.{name_of}
use Rattle.cb_desk.proofs.PlaceOrder.{cmp-places}
use Rattle.cb_desk.proofs.present.places.compare.Goals as goal

-- an order that is not equal decides
first-decides : (o p : Ordering) → o ≢ Equal → ordering_then o p ≡ o
first-decides Less p other = refl
first-decides Equal p other = absurd (other refl)
first-decides Greater p other = refl

pub returns-in-Equal : goal.returns-in-Equal
returns-in-Equal c =
    let x = name_of c.args.archive.now c.args.a.name in
    let y = name_of c.args.archive.now c.args.b.name in
    let same : slice_cmp nat_cmp x y ≡ Equal =
    (λ i. slice_cmp nat_cmp (sym c.name.ensures i) (sym c.name-2.ensures i)) ∙ sym c.cmp.ensures
    ∙ c.in-Equal.is in
    c.cmp-in-Equal.ensures
    ∙ sym (cmp-places x y c.args.a.line c.args.b.line
    ∙ ap (λ o. ordering_then o (nat_cmp c.args.a.line c.args.b.line)) same)

pub returns-in_default : goal.returns-in_default
returns-in_default c =
    let x = name_of c.args.archive.now c.args.a.name in
    let y = name_of c.args.archive.now c.args.b.name in
    let is : slice_cmp nat_cmp x y ≡ c.in_default.unlike =
    (λ i. slice_cmp nat_cmp (sym c.name.ensures i) (sym c.name-2.ensures i)) ∙ sym c.cmp.ensures
    ∙ c.in_default.unlike-is in
    c.in_default.unlike-is ∙ sym (cmp-places x y c.args.a.line c.args.b.line
    ∙ ap (λ o. ordering_then o (nat_cmp c.args.a.line c.args.b.line)) is
    ∙ first-decides c.in_default.unlike _
    (λ e. c.in_default.not-Equal (c.in_default.unlike-is ∙ e)))
