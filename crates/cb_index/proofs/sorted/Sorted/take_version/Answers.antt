use Rattle.std.proofs.Common.{rules}
use Rattle.cb_index.proofs.HeldRowLemmas.{rows_fewer}
use Rattle.cb_index.proofs.sorted.Sorted.take_version.Goals as goal

pub returns-clause-rows : goal.returns-clause-rows
returns-clause-rows t c =
    λ files held under.
    rows_fewer t.O.RowOrder.kind c.args.archive.now files c.args.shown _ _ held (search rules) under
