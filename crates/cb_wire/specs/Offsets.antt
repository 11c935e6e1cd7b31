-- Positions in the units of a text, in the words of the protocol alone: how an editor counts.
use Rattle.std.specs.Prelude.{◌≡◌, ◌+◌, ◌-◌, ◌==◌, ◌&&◌, ◌||◌, ℕ, zero, suc, min, Bool, cond}
use Rattle.std.specs.Prelude.{List, [], ◌∷◌, length, drop, slice_index, flat_map, chars, IsUtf8}
use Rattle.std.specs.List.{before_first}
use Rattle.std.specs.Char.Escape.{encode_utf16}
use Rattle.std.specs.Char.Utf16.{is_low_surrogate}
use Rattle.cb_scan.specs.Bytes.{carriage_return, line_feed}
use Rattle.cb_wire.specs.declared.position.Position.{Position}
use Rattle.cb_wire.specs.declared.units.Encoding.{Encoding}
use Rattle.cb_wire.specs.declared.units.Encoding.TheVariants.{Utf8, Utf16}

-- the units of a text: its bytes, or the UTF-16 of its characters
abbrev pub units : Encoding → List ℕ → List ℕ
units Utf8 text = text
units Utf16 text = flat_map encode_utf16 (chars text)

-- a unit that ends a line: a line feed, or a carriage return
abbrev pub ends_line : ℕ → Bool
ends_line u = u == line_feed || u == carriage_return

-- the first line, without its end
abbrev pub first_line : List ℕ → List ℕ
first_line us = before_first ends_line us

-- how many units the end of a line has that they begin with: a carriage return with a line feed
-- behind it is one end
abbrev pub end_size : List ℕ → ℕ
end_size [] = 0
end_size (u ∷ us) = cond (u == carriage_return && slice_index us 0 == line_feed) 2 1

-- where the second line begins
abbrev pub second_line : List ℕ → ℕ
second_line us = let n = length (first_line us) in n + end_size (drop n us)

-- where a line begins, counted from 0; past the last one the end
unfoldable pub line_offset : List ℕ → ℕ → ℕ
line_offset us zero = 0
line_offset us (suc n) = let next = second_line us in next + line_offset (drop next us) n

-- an offset in a line; between the two units of a pair it is that of the pair
abbrev pub outside_pairs : List ℕ → ℕ → ℕ
outside_pairs line at = cond (is_low_surrogate (slice_index line at)) (at - 1) at

-- the offset of a column in a line; past the end of the line it is that of the end
abbrev pub column_offset : List ℕ → ℕ → ℕ
column_offset line col = outside_pairs line (min col (length line))

-- the offset of a position
abbrev pub offset : List ℕ → Position → ℕ
offset us p =
    let start = line_offset us p.line in
    start + column_offset (first_line (drop start us)) p.character

-- each carriage return stands before a line feed
abbrev pub HasNoLoneReturn : List ℕ → Type 0
HasNoLoneReturn text =
    (i : ℕ) → slice_index text i ≡ carriage_return → slice_index text (i + 1) ≡ line_feed

-- a text in UTF-8 that has no carriage return alone
abbrev pub IsText : List ℕ → Type 0
IsText text = IsUtf8 text × HasNoLoneReturn text
