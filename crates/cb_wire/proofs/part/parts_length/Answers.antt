use Rattle.std.proofs.Common.{arith}
use Rattle.cb_wire.proofs.part.parts_length.Goals as goal

pub returns-clause-few : goal.returns-clause-few
returns-clause-few c = omega (arith, c.loop-part.invariant.few, c.requires)
