use Rattle.cb_index.specs.steps.Moves.{LetsGoAll}
use Rattle.cb_index.specs.Names.{names_of}
use Rattle.cb_index.proofs.EachLemmas.{Upto}
use Rattle.cb_index.proofs.index.take_names_from_each.Given as goal

abbrev pub invariant-loop-index : goal.invariant-loop-index
invariant-loop-index l = Upto (LetsGoAll (names_of l.files)) l.index-index l.fn.indexes l.indexes
