-- From here it is the same.
use Rattle.std.proofs.Common.{◌≡◌, ◌-◌, ◌≤◌, length}
use Rattle.cb_names.specs.Declarators.{stop, stop_from}
use Rattle.cb_names.proofs.declarators.stop.Given as goal

abbrev pub invariant-tokens : goal.invariant-tokens
invariant-tokens l = record {
  value : stop_from l.shape.items.items (length l.shape.items.items - l.step) l.left
      ≡ stop l.shape.items.items l.index;
  within : l.left ≤ length l.shape.items.items;
}
