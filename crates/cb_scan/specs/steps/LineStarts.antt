-- The table of the places at which the lines of a text begin.
use Rattle.std.specs.Prelude.{ℕ, ◌+◌, List, [], ◌∷◌, length}
use Rattle.bstr.specs.Text.{lines_of}

-- where each of some lines begins, the first at the place `at`, and where the last one ends
abbrev pub starts_from : ℕ → List (List ℕ) → List ℕ
starts_from at [] = at ∷ []
starts_from at (l ∷ ls) = at ∷ starts_from (at + length l) ls

-- where the lines of a text begin, and where the last one ends
unfoldable pub line_starts : List ℕ → List ℕ
line_starts text = starts_from 0 (lines_of text)
