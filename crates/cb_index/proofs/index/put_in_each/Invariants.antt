use Rattle.cb_index.specs.steps.Moves.{TakesIn}
use Rattle.cb_index.proofs.EachLemmas.{Upto}
use Rattle.cb_index.proofs.index.put_in_each.Given as goal

abbrev pub invariant-loop-index : goal.invariant-loop-index
invariant-loop-index l = Upto (TakesIn l.news) l.index-index l.fn.indexes l.indexes
