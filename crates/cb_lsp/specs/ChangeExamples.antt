-- Texts after changes, computed. The expected values are worked out by hand.
use Rattle.std.specs.Prelude.{◌≡◌, ℕ, List, [], ◌∷◌, codes, None, Some, refl}
use Rattle.bstr.specs.Text.{line_len, lines_from}
use Rattle.cb_wire.specs.declared.position.Range.{Range}
use Rattle.cb_wire.specs.declared.units.Encoding.TheVariants.{Utf8, Utf16}
use Rattle.cb_wire.specs.Units.{characters_from}
use Rattle.cb_lsp.specs.Changes.{part, splice, text_by, text_from, whole}

-- from a column of a line to another one, both counted from 0
abbrev range : (line column to_line to_column : ℕ) → Range
range line column to_line to_column = record {
  start = record { line = line; character = column };
  end = record { line = to_line; character = to_column };
}

abbrev text : List ℕ
text = codes "int a;\r\nint b;\n"

-- from within a line to within the next one
pub in_two_lines : splice Utf8 text (range 0 4 1 4) (codes "c, ") ≡ codes "int c, b;\n"
unfolding line_len lines_from characters_from
in_two_lines = refl

-- past the end of a shown line is that end, and past the last line the end of the text
pub past_the_ends : splice Utf8 text (range 0 99 9 0) (codes " ") ≡ codes "int a; "
unfolding line_len lines_from characters_from
past_the_ends = refl

-- an end before the start counts as the start
pub end_before_start : splice Utf8 text (range 1 4 0 0) (codes "a") ≡ codes "int a;\r\nint ab;\n"
unfolding line_len lines_from characters_from
end_before_start = refl

-- a column between the two units of a character is that of the character
pub in_a_pair : splice Utf16 (240 ∷ 159 ∷ 152 ∷ 128 ∷ 97 ∷ []) (range 0 1 0 2) (98 ∷ [])
    ≡ 98 ∷ 97 ∷ []
unfolding line_len lines_from characters_from
in_a_pair = refl

-- each change is made in the text after those before it
pub in_turn : text_by Utf8 (Some (codes "int a;"))
    (part (range 0 0 0 4) [] ∷ part (range 0 0 0 1) (codes "ab") ∷ []) ≡ Some (codes "ab;")
unfolding line_len lines_from characters_from text_from
in_turn = refl

-- a part is put into no text, but into a whole one
pub healed : text_by Utf8 None (part (range 0 0 0 0) (codes "a") ∷ whole (codes "b")
    ∷ part (range 0 1 0 1) (codes "c") ∷ []) ≡ Some (codes "bc")
unfolding line_len lines_from characters_from text_from
healed = refl

pub lost : text_by Utf8 None (part (range 0 0 0 0) (codes "a") ∷ []) ≡ None
unfolding text_from
lost = refl
