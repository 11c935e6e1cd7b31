use Rattle.std.proofs.Common.{◌∙◌, sym, ap, map, length, arith, subst}
use Rattle.bstr.specs.Text.{lines_of}
use Rattle.cb_desk.specs.Replacement.{marked_from}
use Rattle.cb_desk.specs.steps.MarkedLines.{Rises}
use Rattle.cb_desk.proofs.MarkedLines.{rises-ascending, rises-next, marked-passed, few-marked}
use Rattle.cb_desk.proofs.present.replacement.MarkedLines.new.Goals as goal

pub invariant_of-result : goal.invariant_of-result
invariant_of-result c = (
  subst (Rises 1) (sym c.split_at_line.ensures.rest)
      (rises-next 0 _ (rises-ascending _ c.requires)),
  omega (arith, c.lines_with_terminator.ensures.len),
)

pub returns-clause-value : goal.returns-clause-value
returns-clause-value c =
    let marks = c.split_at_line.ensures.rest in
    let lines = c.lines_with_terminator.ensures.value ∙ ap lines_of c.bytes.ensures.value in
    (λ i. marked_from (marks i) 1 (lines i)) ∙ marked-passed 0 1 _ _ (omega arith)

pub returns-clause-len : goal.returns-clause-len
returns-clause-len c =
    let marks = map (λ m. m.line) c.args.marks.now in
    let long = ap length (returns-clause-value c) in
    let few = few-marked marks c.args.source.now in
    let same = ap length c.bytes.ensures.value in
    omega arith
