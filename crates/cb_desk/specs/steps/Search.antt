-- How the lines that hold a text are found, one after another.
use Rattle.std.specs.Prelude.{◌≡◌, ◌⊎◌, ℕ, ◌+◌, ◌-◌, List, [], ◌∷◌, slice_index, if◌then◌else◌}
use Rattle.cb_scan.specs.Lines.{lines}
use Rattle.cb_desk.specs.declared.search.LinesLeft.{LinesLeft}
use Rattle.cb_desk.specs.Search.{holds}

-- the numbers of those of some lines that hold a text; the first has the number `first`
abbrev pub found_from : List ℕ → ℕ → List (List ℕ) → List ℕ
found_from pattern first [] = []
found_from pattern first (l ∷ ls) =
    let later = found_from pattern (first + 1) ls in
    if holds pattern l then first ∷ later else later

-- the numbers of the lines that hold a text, in what is left of another text
abbrev pub found_in : List ℕ → LinesLeft → List ℕ
found_in pattern left = found_from pattern left.line (lines left.rest.now)

-- a line of a text begins at a place: at its front or after a line feed
abbrev pub IsLineStart : List ℕ → ℕ → Type 0
IsLineStart text place = (place ≡ 0) ⊎ (slice_index text (place - 1) ≡ 10)
