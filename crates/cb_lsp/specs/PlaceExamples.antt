-- Ranges of a text, computed. The expected values are worked out by hand.
use Rattle.std.specs.Prelude.{◌≡◌, ◌+◌, ℕ, List, [], ◌∷◌, codes, refl}
use Rattle.bstr.specs.Text.{line_len, lines_from}
use Rattle.cb_scan.specs.declared.rules.scope.Range.{Range as FunctionRange}
use Rattle.cb_wire.specs.declared.position.Range.{Range}
use Rattle.cb_wire.specs.declared.units.Encoding.TheVariants.{Utf8, Utf16}
use Rattle.cb_wire.specs.Folds.{fold_of}
use Rattle.cb_wire.specs.Units.{characters_from}
use Rattle.cb_lsp.specs.Folds.{folded}
use Rattle.cb_lsp.specs.Places.{line_range, range_of}

abbrev text : List ℕ
text = codes "int a;\r\nint b;\n"

-- from a column of a line to another one, both counted from 0
abbrev range : (line column to_line to_column : ℕ) → Range
range line column to_line to_column = record {
  start = record { line = line; character = column };
  end = record { line = to_line; character = to_column };
}

pub of_a_name : range_of Utf16 text 12 13 ≡ range 1 4 1 5
unfolding line_len lines_from characters_from
of_a_name = refl

-- past the end of the text is its end
pub past_the_end : range_of Utf8 text 4 99 ≡ range 0 4 2 0
unfolding line_len lines_from characters_from
past_the_end = refl

-- the shown line of a place, without its end
pub of_a_line : line_range Utf8 text 4 ≡ range 0 0 0 6
unfolding line_len lines_from characters_from
of_a_line = refl

-- ---- functions that are folded

-- a function from the byte of its name to the end of its body
abbrev function : (name end : ℕ) → FunctionRange
function name end = record { name = record { start = name; end = name + 1 }; end = end }

-- from the line of the name to that of the brace; a function of one line is left out
pub of_two_functions : folded (codes "f\n{\n}\ng{}\n") (function 0 5 ∷ function 6 9 ∷ [])
    ≡ fold_of 0 2 ∷ []
of_two_functions = refl

-- a body that nothing closes ends with the text, whose last byte is a line feed
pub of_an_open_function : folded (codes "f\n{\n") (function 0 4 ∷ []) ≡ fold_of 0 1 ∷ []
of_an_open_function = refl
