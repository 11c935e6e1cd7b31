use Rattle.cb_wire.specs.steps.ReadHeads.{EndsKnown}
use Rattle.cb_wire.proofs.ReadBodies.{Skipped}
use Rattle.cb_wire.proofs.frame.skip.Given as goal

abbrev pub invariant-bytes : goal.invariant-bytes
invariant-bytes g l = record {
  passed : Skipped l.fn.feed l.feed l.read;
  ends : EndsKnown l.fn.feed → EndsKnown l.feed;
}
