use Rattle.std.proofs.Common.{arith}
use Rattle.cb_wire.proofs.Unescaped.{path-length}
use Rattle.cb_wire.proofs.uri.escaped_length.Goals as goal

pub returns-clause-value : goal.returns-clause-value
returns-clause-value c =
    omega (arith, path-length c.args.path.now, c.escapes.ensures.value)
