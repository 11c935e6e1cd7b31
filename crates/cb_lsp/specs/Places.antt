-- Ranges of a text, as an editor has them.
use Rattle.std.specs.Prelude.{ℕ, ◌-◌, List, length}
use Rattle.cb_scan.specs.Lines.{line_of, line_text}
use Rattle.cb_wire.specs.declared.position.Range.{Range}
use Rattle.cb_wire.specs.declared.units.Encoding.{Encoding}
use Rattle.cb_wire.specs.Positions.{position}
use Rattle.cb_wire.specs.Units.{column}

-- the bytes from a place to another
abbrev pub range_of : Encoding → List ℕ → (start end : ℕ) → Range
range_of e text start end =
    record { start = position e text start; end = position e text end }

-- a line, counted from 0, that reads so
abbrev pub whole_line : Encoding → ℕ → List ℕ → Range
whole_line e n shown = record {
  start = record { line = n; character = 0 };
  end = record { line = n; character = column e shown (length shown) };
}

-- a shown line, counted from 1
abbrev pub range_of_line : Encoding → List ℕ → ℕ → Range
range_of_line e text n = whole_line e (n - 1) (line_text text n)

-- the shown line of a place
abbrev pub line_range : Encoding → List ℕ → ℕ → Range
line_range e text place = range_of_line e text (line_of text place)

-- the start of a file
abbrev pub start_of_file : Range
start_of_file =
    record { start = record { line = 0; character = 0 }; end = record { line = 0; character = 0 } }
