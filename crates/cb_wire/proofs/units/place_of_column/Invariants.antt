use Rattle.std.proofs.Common.{◌≡◌, ◌≤◌, ◌+◌, length}
use Rattle.cb_wire.specs.Units.{place_in_line}
use Rattle.cb_wire.proofs.units.place_of_column.Given as goal

abbrev pub invariant-characters : goal.invariant-characters
invariant-characters l = record {
  value : l.bytes + place_in_line l.encoding l.rest l.left ≡ place_in_line l.encoding l.line l.column;
  within : l.bytes + length l.rest ≤ length l.line;
}

abbrev pub decreases-characters : goal.decreases-characters
decreases-characters l = length l.rest
