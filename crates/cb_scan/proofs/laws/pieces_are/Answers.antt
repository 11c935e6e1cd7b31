use Rattle.cb_scan.proofs.PieceLists.{pieces-are}
use Rattle.cb_scan.proofs.laws.pieces_are.Goals as goal

pub returns : goal.returns
returns c = pieces-are
