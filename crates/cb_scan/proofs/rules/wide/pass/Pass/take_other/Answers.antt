-- What is found is of the file or of the innermost level.
use Rattle.std.proofs.Common.{◌∙◌, ap, sym}
use Rattle.cb_scan.proofs.WideOther.{none_of_file, other_found}
use Rattle.cb_scan.proofs.rules.wide.pass.Pass.take_other.Goals as goal
use Rattle.cb_scan.proofs.rules.wide.pass.Pass.take_other.Goals.{then-is_in_file+in_ok-in_file, else-is_in_file}

pub returns-clause-found : goal.returns-clause-found
returns-clause-found c =
    elim c.if-is_in_file.branch [
      | then-is_in_file+in_ok-in_file w ↦
          let kept = ap (λ p. p.levels) w.self-is ∙ ap (λ p. p.levels) w.in_ok-in_file.ensures.file in
          c.in_ok-add_inside.ensures.found
          ∙ other_found c.args.item.now c.requires.other c.args.found.now c.if-is_in_file.found
          c.args.self.now c.if-is_in_file.self c.args.ahead.now
          (w.found-is ∙ w.in_ok-in_file.ensures.found) kept
      | else-is_in_file w ↦
          c.in_ok-add_inside.ensures.found
          ∙ other_found c.args.item.now c.requires.other c.args.found.now c.if-is_in_file.found
          c.args.self.now c.if-is_in_file.self c.args.ahead.now
          (w.found-is ∙ none_of_file c.args.item.now c.requires.other c.args.found.now
          c.args.self.now (sym c.is_in_file.ensures ∙ w.if-is_in_file.false))
          (ap (λ p. p.levels) w.self-is)
    ]
