use Rattle.std.proofs.Common.{◌≡◌, ◌∙◌, sym, ap, nat_cmp, Equal}
use Rattle.std.specs.Cmp.Lexicographic.{slice_cmp}
use Rattle.std.specs.Ordering.{ordering_then}
use Rattle.cb_desk.specs.steps.Plans.{name_then}
use Rattle.cb_desk.proofs.PlaceOrder.{cmp-places, first-decides}
use Rattle.cb_desk.proofs.present.files.compare.Goals as goal

pub returns-in-Equal : goal.returns-in-Equal
returns-in-Equal c =
    let file = name_then c.args.archive.now c.args.number c.args.new.now c.args.a.name in
    let other = name_then c.args.archive.now c.args.number c.args.new.now c.args.b.name in
    let same : slice_cmp nat_cmp file other ≡ Equal =
    (λ i. slice_cmp nat_cmp (sym c.name_then-file.ensures i) (sym c.name_then-other.ensures i))
    ∙ sym c.cmp.ensures ∙ c.in-Equal.is in
    c.cmp-in-Equal.ensures
    ∙ sym (cmp-places file other c.args.a.line c.args.b.line
    ∙ ap (λ o. ordering_then o (nat_cmp c.args.a.line c.args.b.line)) same)

pub returns-in_default : goal.returns-in_default
returns-in_default c =
    let file = name_then c.args.archive.now c.args.number c.args.new.now c.args.a.name in
    let other = name_then c.args.archive.now c.args.number c.args.new.now c.args.b.name in
    let is : slice_cmp nat_cmp file other ≡ c.in_default.unlike =
    (λ i. slice_cmp nat_cmp (sym c.name_then-file.ensures i) (sym c.name_then-other.ensures i))
    ∙ sym c.cmp.ensures ∙ c.in_default.unlike-is in
    c.in_default.unlike-is ∙ sym (cmp-places file other c.args.a.line c.args.b.line
    ∙ ap (λ o. ordering_then o (nat_cmp c.args.a.line c.args.b.line)) is
    ∙ first-decides c.in_default.unlike _
    (λ e. c.in_default.not-Equal (c.in_default.unlike-is ∙ e)))
