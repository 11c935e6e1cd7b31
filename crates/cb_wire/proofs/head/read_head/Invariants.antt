use Rattle.std.proofs.Common.{◌≤◌, ◌<◌, vec_capacity}
use Rattle.cb_wire.specs.steps.ReadHeads.{EndsKnown}
use Rattle.cb_wire.proofs.ReadHeads.{Kept}
use Rattle.cb_wire.proofs.head.read_head.Given as goal

abbrev pub invariant-bytes : goal.invariant-bytes
invariant-bytes g l = record {
  kept : Kept l.fn.feed l.feed l.line l.head.items l.read;
  ends : 0 < l.read → EndsKnown l.feed;
  room : vec_capacity l.fn.head ≤ vec_capacity l.head;
}
