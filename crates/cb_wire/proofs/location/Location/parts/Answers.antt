use Rattle.std.proofs.Common.{sym}
use Rattle.cb_wire.proofs.Locations.{location-text}
use Rattle.cb_wire.proofs.location.Location.parts.Goals as goal

pub returns : goal.returns
returns c =
    let l = c.args.self.now in
    sym (location-text l.root.now l.name.now l.range)
