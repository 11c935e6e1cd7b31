-- The lines of a text that hold a pattern.
use Rattle.std.specs.Prelude.{ℕ, ◌+◌, Bool, List, length, filter}
use Rattle.std.specs.List.{list_any, range_with_len}
use Rattle.memchr.specs.Find.{occurs_at}
use Rattle.cb_scan.specs.Lines.{lines, line_text}

-- a text holds a pattern: it occurs at some place
abbrev pub holds : List ℕ → List ℕ → Bool
holds pattern text = list_any (occurs_at text pattern) (range_with_len 0 (length text + 1))

-- the numbers of the shown lines that hold a pattern, ascending from 1
abbrev pub lines_with : List ℕ → List ℕ → List ℕ
lines_with pattern text =
    filter (λ n. holds pattern (line_text text n)) (range_with_len 1 (length (lines text)))
