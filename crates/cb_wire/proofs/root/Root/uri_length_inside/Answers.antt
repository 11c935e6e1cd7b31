use Rattle.std.proofs.Common.{arith}
use Rattle.cb_wire.proofs.Plain.{escape-uri-length}
use Rattle.cb_wire.proofs.root.Root.uri_length_inside.Goals as goal

pub returns-clause-value : goal.returns-clause-value
returns-clause-value c =
    omega (
      arith,
      escape-uri-length c.front-size.result.0.now c.front-size.result.2.now c.args.name.now _
          c.front-size.ensures.uri,
      c.front-size.ensures.size,
      c.json_length.ensures.value,
      c.escaped_length.ensures.value,
    )
