use Rattle.cb_scan.proofs.PieceLists.{pieces-only}
use Rattle.cb_scan.proofs.laws.pieces_only.Goals as goal

pub returns : goal.returns
returns c = pieces-only
