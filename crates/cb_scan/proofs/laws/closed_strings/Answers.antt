use Rattle.cb_scan.proofs.ClosedStrings.{closed_strings}
use Rattle.cb_scan.proofs.laws.closed_strings.Goals as goal

pub returns : goal.returns
returns c = closed_strings
