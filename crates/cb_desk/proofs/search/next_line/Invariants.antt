use Rattle.std.proofs.Common.{◌≡◌, ◌≤◌, ◌+◌, length}
use Rattle.cb_scan.specs.Lines.{lines}
use Rattle.cb_desk.specs.declared.bounds.TheConstants.{MOST_BYTES}
use Rattle.cb_desk.specs.steps.Search.{found_from}
use Rattle.cb_desk.proofs.search.next_line.Given as goal

abbrev pub decreases-loop-place : goal.decreases-loop-place
decreases-loop-place l = length (lines l.left.rest.now)

abbrev pub invariant-loop-place : goal.invariant-loop-place
invariant-loop-place l = record {
  found : found_from l.finder l.left.line (lines l.left.rest.now)
      ≡ found_from l.finder l.fn.left.line (lines l.fn.left.rest.now);
  small : l.left.line + length (lines l.left.rest.now) ≤ MOST_BYTES + 1;
}
