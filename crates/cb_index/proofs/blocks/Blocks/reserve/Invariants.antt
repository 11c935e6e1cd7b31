use Rattle.std.proofs.Common.{◌≡◌, ◌≤◌, ◌-◌}
use Rattle.cb_index.proofs.blocks.Blocks.reserve.Given as goal

abbrev pub decreases-loop-count : goal.decreases-loop-count
decreases-loop-count t l = l.all - l.count

abbrev pub invariant-loop-count : goal.invariant-loop-count
invariant-loop-count t l = record {
  count : l.count ≡ l.self.count;
  used : l.self.used ≡ l.initial.self.used;
  more : l.initial.self.count ≤ l.self.count;
  all : l.n ≤ l.all;
}
