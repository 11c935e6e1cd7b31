-- What is left of the rows of the lines that hold a text.
use Rattle.std.specs.Prelude.{◌≤◌, ◌+◌, List, [], ℕ, length, map, Option, Some, None, ⊤}
use Rattle.std.specs.List.{flat_map}
use Rattle.cb_scan.specs.Lines.{lines}
use Rattle.cb_desk.specs.declared.bounds.TheConstants.{MOST_BYTES}
use Rattle.cb_desk.specs.declared.answers.texts.Searched.{Searched}
use Rattle.cb_desk.specs.Answer.{AnswerRow, line_row, text_rows_in}
use Rattle.cb_desk.specs.World.{File}
use Rattle.cb_desk.specs.steps.Search.{found_in}

-- the rows of some files
abbrev pub rows_in : List ℕ → List File → List AnswerRow
rows_in pattern files = flat_map (text_rows_in pattern) files

-- the rows of what is left of a file
abbrev pub rows_left : List ℕ → Searched → List AnswerRow
rows_left pattern s = map (line_row s.name.now s.source.now) (found_in pattern s.left)

-- the same, where there may be none
abbrev pub rows_of : List ℕ → Option Searched → List AnswerRow
rows_of pattern None = []
rows_of pattern (Some s) = rows_left pattern s

-- the number of each line that is left fits
abbrev pub IsSmall : Searched → Type 0
IsSmall s = s.left.line + length (lines s.left.rest.now) ≤ MOST_BYTES + 1

abbrev pub IsSmallIfAny : Option Searched → Type 0
IsSmallIfAny None = ⊤
IsSmallIfAny (Some s) = IsSmall s
