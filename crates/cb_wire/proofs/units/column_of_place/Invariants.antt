use Rattle.std.proofs.Common.{◌≡◌, ◌≤◌, ◌+◌, length}
use Rattle.cb_wire.specs.Units.{column}
use Rattle.cb_wire.proofs.units.column_of_place.Given as goal

abbrev pub invariant-characters : goal.invariant-characters
invariant-characters l = record {
  value : l.units + column l.encoding l.rest l.left ≡ column l.encoding l.line l.place;
  within : l.units + length l.rest ≤ length l.line;
}

abbrev pub decreases-characters : goal.decreases-characters
decreases-characters l = length l.rest
