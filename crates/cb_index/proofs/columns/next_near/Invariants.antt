use Rattle.std.proofs.Common.{◌≤◌, ◌-◌, length}
use Rattle.cb_index.specs.Columns.{AreFar}
use Rattle.cb_index.proofs.columns.next_near.Given as goal

abbrev pub decreases-loop-at : goal.decreases-loop-at
decreases-loop-at l = length l.cells - l.at

abbrev pub invariant-loop-at : goal.invariant-loop-at
invariant-loop-at l = record {
  from : l.from ≤ l.at;
  far : AreFar l.cells l.from l.at l.hash;
}
