use Rattle.cb_scan.proofs.OnLevels.{defs-on}
use Rattle.cb_scan.proofs.laws.definitions_on_levels.Goals as goal

pub returns : goal.returns
returns c = defs-on
