use Rattle.std.proofs.Common.{sym, ap}
use Rattle.cb_scan.specs.Profiles.{facts_by}
use Rattle.cb_scan.proofs.PieceLists.{pieces-only}
use Rattle.cb_scan.proofs.laws.facts_are.Goals as goal

pub returns : goal.returns
returns c profile text ps are = ap (facts_by profile text) (sym (pieces-only text ps are))
