use Rattle.cb_index.specs.steps.Moves.{LetsGo}
use Rattle.cb_index.proofs.EachLemmas.{Upto}
use Rattle.cb_index.proofs.index.take_from_each.Given as goal

abbrev pub invariant-loop-index : goal.invariant-loop-index
invariant-loop-index l = Upto (LetsGo l.archive l.one) l.index-index l.fn.indexes l.indexes
