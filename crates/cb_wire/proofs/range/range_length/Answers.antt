use Rattle.std.proofs.Common.{arith}
use Rattle.cb_wire.proofs.Ranges.{range-length}
use Rattle.cb_wire.proofs.range.range_length.Goals as goal

pub returns-clause-value : goal.returns-clause-value
returns-clause-value c =
    omega (
      arith,
      range-length c.args.range,
      c.position_length.ensures.value,
      c.position_length-2.ensures.value,
    )
