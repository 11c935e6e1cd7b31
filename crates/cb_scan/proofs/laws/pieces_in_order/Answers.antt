use Rattle.cb_scan.proofs.PieceLists.{pieces-adjoin, pieces-lie}
use Rattle.cb_scan.proofs.laws.pieces_in_order.Goals as goal

pub returns : goal.returns
returns c = record { within = pieces-lie; order = pieces-adjoin }
