use Rattle.cb_wire.proofs.Offsets.{offset-units}
use Rattle.cb_wire.proofs.laws.offsets_count_units.Goals as goal

pub returns : goal.returns
returns c = offset-units
