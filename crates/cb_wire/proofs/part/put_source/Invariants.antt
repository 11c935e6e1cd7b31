use Rattle.std.proofs.Common.{length}
use Rattle.cb_wire.proofs.Readable.{Written}
use Rattle.cb_wire.proofs.part.put_source.Given as goal

abbrev pub invariant-sequences : goal.invariant-sequences
invariant-sequences g l = Written l.fn.out l.out l.rest l.bytes

abbrev pub decreases-sequences : goal.decreases-sequences
decreases-sequences g l = length l.rest
