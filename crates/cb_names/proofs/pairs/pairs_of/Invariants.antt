-- The tokens up to here are known.
use Rattle.cb_names.specs.steps.Pairing.{HoldsPairs}
use Rattle.cb_names.proofs.pairs.pairs_of.Given as goal

abbrev pub invariant-loop-at : goal.invariant-loop-at
invariant-loop-at l = HoldsPairs l.items l.at l.pairing
