-- Units and offsets of an editor, computed. The expected values are worked out by hand.
use Rattle.std.specs.Prelude.{◌≡◌, ℕ, List, [], ◌∷◌, None, Some, codes, refl}
use Rattle.std.specs.Str.{chars}
use Rattle.cb_wire.specs.declared.position.Position.{Position}
use Rattle.cb_wire.specs.declared.position.Range.{Range}
use Rattle.cb_wire.specs.declared.units.Encoding.TheVariants.{Utf8, Utf16}
use Rattle.cb_wire.specs.Offsets.{line_offset, offset, units}
use Rattle.cb_lsp.specs.Changes.{part, whole}
use Rattle.cb_lsp.specs.Editors.{put_units, units_through}

-- a line and a column, both counted from 0
abbrev at : (line column : ℕ) → Position
at line column = record { line = line; character = column }

abbrev between : (start end : Position) → Range
between start end = record { start = start; end = end }

-- `a` and U+1F600 in a line that ends in CR LF, and `b` in one that has no end
abbrev us : List ℕ
us = 97 ∷ 0xD83D ∷ 0xDE00 ∷ 13 ∷ 10 ∷ 98 ∷ []

pub in_utf16 : units Utf16 (97 ∷ 240 ∷ 159 ∷ 152 ∷ 128 ∷ 13 ∷ 10 ∷ 98 ∷ []) ≡ us
unfolding chars
in_utf16 = refl

pub in_utf8 : units Utf8 (195 ∷ 164 ∷ []) ≡ 195 ∷ 164 ∷ []
in_utf8 = refl

-- behind the pair, and in the next line
pub behind_the_pair : offset us (at 0 3) ≡ 3
unfolding line_offset
behind_the_pair = refl

pub in_the_next_line : offset us (at 1 1) ≡ 6
unfolding line_offset
in_the_next_line = refl

-- between the units of the pair, past the end of a line, and past the last line
pub in_the_pair : offset us (at 0 2) ≡ 1
unfolding line_offset
in_the_pair = refl

pub past_the_line : offset us (at 0 9) ≡ 3
unfolding line_offset
past_the_line = refl

pub past_the_text : offset us (at 5 1) ≡ 6
unfolding line_offset
past_the_text = refl

-- an editor ends a line at a carriage return alone too
pub behind_a_return : offset (97 ∷ 13 ∷ 98 ∷ 10 ∷ 99 ∷ []) (at 2 0) ≡ 4
unfolding line_offset
behind_a_return = refl

-- a part of two lines, and one whose end is before its start
pub of_two_lines : put_units us (between (at 0 1) (at 1 0)) (codes "c")
    ≡ codes "acb"
unfolding line_offset
of_two_lines = refl

pub end_before_start : put_units us (between (at 1 0) (at 0 0)) (codes "c")
    ≡ 97 ∷ 0xD83D ∷ 0xDE00 ∷ 13 ∷ 10 ∷ 99 ∷ 98 ∷ []
unfolding line_offset
end_before_start = refl

-- one change after another; a part is put into no text, but into a whole one
pub in_turn : units_through Utf16 (Some us) (part (between (at 0 1) (at 0 3)) []
    ∷ part (between (at 0 0) (at 0 1)) (195 ∷ 164 ∷ []) ∷ []) ≡ Some (228 ∷ 13 ∷ 10 ∷ 98 ∷ [])
unfolding chars line_offset
in_turn = refl

pub healed : units_through Utf8 None (part (between (at 0 0) (at 0 0)) (codes "a")
    ∷ whole (codes "b") ∷ part (between (at 0 1) (at 0 1)) (codes "c") ∷ []) ≡ Some (codes "bc")
unfolding line_offset
healed = refl
