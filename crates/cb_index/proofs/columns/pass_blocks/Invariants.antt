use Rattle.std.proofs.Common.{◌≤◌, ◌-◌, length}
use Rattle.cb_index.specs.Columns.{AreFar}
use Rattle.cb_index.proofs.columns.pass_blocks.Given as goal

abbrev pub decreases-loop-from : goal.decreases-loop-from
decreases-loop-from l = length l.cells - l.at

abbrev pub invariant-loop-from : goal.invariant-loop-from
invariant-loop-from l = record {
  from : l.from ≤ l.at;
  far : AreFar l.cells l.from l.at l.hash;
}
