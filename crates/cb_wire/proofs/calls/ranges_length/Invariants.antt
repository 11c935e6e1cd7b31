use Rattle.std.proofs.Common.{◌≡◌, ◌≤◌, ◌*◌, ◌++◌, codes, length, take}
use Rattle.std.specs.List.{flat_map}
use Rattle.cb_wire.specs.Calls.{range_text}
use Rattle.cb_wire.proofs.calls.ranges_length.Given as goal

abbrev pub invariant-loop-call : goal.invariant-loop-call
invariant-loop-call g l = record {
  value : l.total ≡ length (flat_map
      (λ call. codes "," ++ range_text (g.R.Ranged.range call)) (take l.call-index l.calls));
  few : l.total ≤ 222 * l.call-index;
}
