-- The lines of a text.
use Rattle.std.specs.Prelude.{◌+◌, ◌-◌, ◌≤◌, ◌==◌, ℕ, zero, suc, List, [], length, take, map}
use Rattle.std.specs.Prelude.{count_by, sum_by}
use Rattle.std.specs.List.{slice_index_or}
use Rattle.bstr.specs.Text.{lines_of, without_terminator}
use Rattle.cb_scan.specs.Bytes.{line_feed}

-- the shown lines: the text cut after each line feed, each part without its line feed and one
-- carriage return before that (POSIX text lines)
abbrev pub lines : List ℕ → List (List ℕ)
lines text = map without_terminator (lines_of text)

-- the shown line n, counted from 1; no bytes at 0 and past the last
abbrev pub line_text : List ℕ → ℕ → List ℕ
line_text text zero = []
line_text text (suc n) = slice_index_or (lines text) n []

-- the text has a line of that number, counted from 1
abbrev pub IsLineOf : List ℕ → ℕ → Type 0
IsLineOf text n = (1 ≤ n) × (n ≤ length (lines text))

-- where the shown line n begins, counted from 1: after the bytes of the lines before it; the end of
-- the text past the last line
abbrev pub line_start : List ℕ → ℕ → ℕ
line_start text n = sum_by length (take (n - 1) (lines_of text))

-- the line of a place: one more than the line feeds before it
abbrev pub line_of : List ℕ → ℕ → ℕ
line_of text place = count_by (λ b. b == line_feed) (take place text) + 1
