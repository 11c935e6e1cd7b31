-- So many tokens begin before a place, and those of the first functions are found.
use Rattle.std.proofs.Common.{◌≡◌, ◌≤◌, length}
use Rattle.std.specs.Prelude.{take}
use Rattle.std.specs.List.{flat_map}
use Rattle.cb_names.specs.Functions.{before}
use Rattle.cb_names.specs.OwnNames.{own_of}
use Rattle.cb_names.proofs.own.own_in.Given as goal

abbrev pub invariant-loop-i : goal.invariant-loop-i
invariant-loop-i l = record {
  known : l.count ≡ before l.known l.items;
  within : l.count ≤ length l.items;
  found : l.found.items ≡ flat_map (own_of l.text l.items l.name) (take l.i l.ranges);
}
