use Rattle.cb_wire.proofs.ReadBodies.{Skipped-byte}
use Rattle.cb_wire.proofs.ReadHeads.{Open-ends}
use Rattle.cb_wire.proofs.frame.skip.Goals as goal

pub bytes-preserved : goal.bytes-preserved
bytes-preserved g c =
    let k = rw c.in-Some.is at c.in_ok-byte.ensures in
    record {
      passed = Skipped-byte _ _ _ c.bytes.read c.in-Some.field-0 c.bytes.invariant.passed k;
      ends = λ old. Open-ends c.bytes.feed c.byte.new.self c.in-Some.field-0 k;
    }
