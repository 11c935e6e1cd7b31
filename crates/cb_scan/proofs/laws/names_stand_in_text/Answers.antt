use Rattle.cb_scan.proofs.NamedDefs.{defs-named}
use Rattle.cb_scan.proofs.laws.names_stand_in_text.Goals as goal

pub returns : goal.returns
returns c = defs-named
