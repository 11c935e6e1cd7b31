use Rattle.cb_index.specs.Shelved.{HasRoom}
use Rattle.cb_index.specs.steps.Moves.{StaysSame}
use Rattle.cb_index.proofs.EachLemmas.{Upto}
use Rattle.cb_index.proofs.index.reserve_each.Given as goal

abbrev pub invariant-loop-index : goal.invariant-loop-index
invariant-loop-index l =
    Upto (λ x y. StaysSame x y × HasRoom l.room y) l.index-index l.fn.indexes l.indexes
