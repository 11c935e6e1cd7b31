-- Positions in a text.
use Rattle.std.specs.Prelude.{◌≡◌, ◌≤◌, ◌+◌, ◌-◌, ◌==◌, ℕ, List, [], length, take, count_by}
use Rattle.std.specs.List.{slice_index_or, sum_by}
use Rattle.bstr.specs.Text.{lines_of}
use Rattle.cb_scan.specs.Bytes.{line_feed}
use Rattle.cb_scan.specs.Lines.{lines}
use Rattle.cb_wire.specs.declared.position.Position.{Position}
use Rattle.cb_wire.specs.declared.units.Encoding.{Encoding}
use Rattle.cb_wire.specs.Units.{IsBoundary, IsColumn, column, place_in_line}

-- where a line begins, counted from 0; past the last one the end of the text
abbrev pub line_start : List ℕ → ℕ → ℕ
line_start text n = sum_by length (take n (lines_of text))

-- the shown line of that number, counted from 0; past the last one nothing
abbrev pub shown_line : List ℕ → ℕ → List ℕ
shown_line text n = slice_index_or (lines text) n []

-- how many line feeds there are
abbrev pub line_feeds : List ℕ → ℕ
line_feeds text = count_by (λ b. b == line_feed) text

-- the place that a position names: past the end of the shown line that end, and past the last line
-- the end of the text
abbrev pub place : Encoding → List ℕ → Position → ℕ
place encoding text p =
    line_start text p.line + place_in_line encoding (shown_line text p.line) p.character

-- the position of a place: the line feeds before it, and its column in the shown line
abbrev pub position_on : Encoding → List ℕ → ℕ → ℕ → Position
position_on encoding text at line = record {
  line = line;
  character = column encoding (shown_line text line) (at - line_start text line);
}

abbrev pub position : Encoding → List ℕ → ℕ → Position
position encoding text at = position_on encoding text at (line_feeds (take at text))

-- a place where a character of a shown line begins, or the end of a shown line or of the text
abbrev pub IsPlace : Encoding → List ℕ → ℕ → Type 0
IsPlace encoding text at =
    (line : ℕ) × (n : ℕ) × (line ≤ line_feeds text) × (at ≡ line_start text line + n)
    × IsBoundary encoding (shown_line text line) n

-- a position where a character of a shown line begins, or the end of one; the last line may be
-- empty
abbrev pub IsPosition : Encoding → List ℕ → Position → Type 0
IsPosition encoding text p =
    (p.line ≤ line_feeds text) × IsColumn encoding (shown_line text p.line) p.character
