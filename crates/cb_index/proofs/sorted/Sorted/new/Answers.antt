use Rattle.cb_index.proofs.HeldRowLemmas.{rows_none}
use Rattle.cb_index.proofs.sorted.Sorted.new.Goals as goal

pub returns-clause-rows : goal.returns-clause-rows
returns-clause-rows t c = λ a. rows_none t.O.RowOrder.kind a _ c.new.ensures
