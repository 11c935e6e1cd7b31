-- The tokens up to here are known.
use Rattle.cb_names.specs.steps.Starting.{HoldsStarts}
use Rattle.cb_names.proofs.statements.starts_of.Given as goal

abbrev pub invariant-loop-at : goal.invariant-loop-at
invariant-loop-at l = HoldsStarts l.shape.items.items l.shape.body l.at l.starting
