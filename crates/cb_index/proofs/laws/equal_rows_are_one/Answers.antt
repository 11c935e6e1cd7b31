use Rattle.cb_index.specs.Kinds.{keyer_of}
use Rattle.cb_index.specs.RowOrders.{rank_for, start_for}
use Rattle.cb_index.proofs.RowOrderLemmas.{row_exact}
use Rattle.cb_index.proofs.laws.equal_rows_are_one.Goals as goal

pub returns : goal.returns
returns g c a r s tied =
    let kind = g.O.RowOrder.kind in
    row_exact (keyer_of kind) (start_for kind) (rank_for kind) a r s tied
