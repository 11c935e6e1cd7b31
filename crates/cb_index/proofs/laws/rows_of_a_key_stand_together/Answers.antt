use Rattle.cb_index.specs.Kinds.{keyer_of}
use Rattle.cb_index.specs.RowOrders.{rank_for, start_for}
use Rattle.cb_index.proofs.RowOrderLemmas.{rows_together}
use Rattle.cb_index.proofs.laws.rows_of_a_key_stand_together.Goals as goal

pub returns : goal.returns
returns g c a r s t low high same =
    let kind = g.O.RowOrder.kind in
    rows_together (keyer_of kind) (start_for kind) (rank_for kind) a r s t low high same
