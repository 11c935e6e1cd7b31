use Rattle.cb_index.specs.Kinds.{keyer_of}
use Rattle.cb_index.specs.RowOrders.{rank_for, start_for}
use Rattle.cb_index.proofs.RowOrderLemmas.{rows_total}
use Rattle.cb_index.proofs.laws.row_orders_are_total.Goals as goal

pub returns : goal.returns
returns g c a =
    let kind = g.O.RowOrder.kind in rows_total (keyer_of kind) (start_for kind) (rank_for kind) a
