use Rattle.std.proofs.Common.{arith}
use Rattle.cb_wire.proofs.Ranges.{position-length}
use Rattle.cb_wire.proofs.range.position_length.Goals as goal

pub returns-clause-value : goal.returns-clause-value
returns-clause-value c =
    omega (
      arith,
      position-length c.args.position,
      c.number_length.ensures.value,
      c.number_length-2.ensures.value,
    )
