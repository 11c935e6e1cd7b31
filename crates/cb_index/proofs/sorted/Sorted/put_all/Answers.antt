use Rattle.std.proofs.Common.{rules}
use Rattle.cb_index.proofs.HeldRowLemmas.{rows_more}
use Rattle.cb_index.proofs.sorted.Sorted.put_all.Goals as goal

pub returns-clause-rows : goal.returns-clause-rows
returns-clause-rows t c =
    λ files held here none.
    rows_more t.O.RowOrder.kind c.args.archive.now files c.args.shown _ _ held
    (search rules) here none
