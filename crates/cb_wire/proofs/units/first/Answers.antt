use Rattle.std.proofs.Common.{◌<◌, length, rules}
use Rattle.cb_wire.proofs.Fitting.{first_is}
use Rattle.cb_wire.proofs.units.first.Goals as goal

pub returns-clause-units : goal.returns-clause-units
returns-clause-units c =
    let some : 0 < length c.args.line.now = search rules in
    let is = first_is c.args.encoding c.args.line.now some in
    rw c.front.ensures (is.some, is.few)

pub returns-clause-within : goal.returns-clause-within
returns-clause-within c =
    let some : 0 < length c.args.line.now = search rules in
    rw c.front.ensures (first_is c.args.encoding c.args.line.now some).within
