-- What a line begins with, as its columns are counted.
use Rattle.std.specs.Prelude.{◌≡◌, ◌+◌, ◌-◌, ◌≤◌, ◌<◌, ℕ, List, drop}
use Rattle.cb_wire.specs.declared.units.Character.{Character}
use Rattle.cb_wire.specs.declared.units.Encoding.{Encoding}
use Rattle.cb_wire.specs.Units.{column, place_in_line}

-- bytes and units at the front of a line, before a place or a column that is in them or after them
pub record IsRun (e : Encoding) (line : List ℕ) (room : ℕ) (c : Character) : Type 0 where
  pub column_in : room < c.bytes → column e line room ≡ 0
  pub column_after : c.bytes ≤ room
      → column e line room ≡ c.units + column e (drop c.bytes line) (room - c.bytes)
  pub place_in : room < c.units → place_in_line e line room ≡ 0
  pub place_after : c.units ≤ room
      → place_in_line e line room ≡ c.bytes + place_in_line e (drop c.bytes line) (room - c.units)
