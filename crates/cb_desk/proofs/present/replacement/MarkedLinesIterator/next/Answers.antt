use Rattle.std.proofs.Common.{◌∙◌, ◌+◌, sym, ap, length, ◌∷◌, arith, subst}
use Rattle.cb_desk.specs.Replacement.{marked_from}
use Rattle.cb_desk.specs.steps.MarkedLines.{Rises}
use Rattle.cb_desk.proofs.MarkedLines.{rises-next, marked-next}
use Rattle.cb_desk.proofs.present.replacement.MarkedLinesIterator.next.Goals as goal

pub invariant_of-self-2 : goal.invariant_of-self-2
invariant_of-self-2 c = (
  subst (Rises (c.self.inside.number + 1)) (sym c.split_at_line-marked.ensures.rest)
      (rises-next c.self.inside.number _ c.self.invariant.0),
  omega (arith, ap length c.in_ok-line.ensures.steps, c.self.invariant.1),
)

pub returns-clause-steps : goal.returns-clause-steps
returns-clause-steps c =
    let number = c.self.inside.number in
    let marked = sym c.split_at_line-marked.ensures.marked in
    let marks = sym c.split_at_line-marked.ensures.rest in
    sym c.self.view_is
    ∙ ap (marked_from _ number) c.in_ok-line.ensures.steps
    ∙ marked-next number _ c.in_ok-line.line.now c.next.new.self c.self.invariant.0
    ∙ (λ i. (c.in_ok-line.line.now, marked i) ∷ marked_from (marks i) (number + 1) c.next.new.self)
