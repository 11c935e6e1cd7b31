-- What is made and what is left of both lists are all calls.
use Rattle.std.proofs.Common.{◌++◌, ◌≤◌, drop, length}
use Rattle.std.specs.List.Sorted.{IsPermutation}
use Rattle.cb_scan.proofs.rules.order.merged.Given as goal

abbrev pub invariant-loop-item : goal.invariant-loop-item
invariant-loop-item g l = record {
  moved : IsPermutation (l.first ++ l.second) (l.all.items ++ (drop l.item-index l.first ++ l.rest));
  few : length l.rest ≤ length l.second;
}
