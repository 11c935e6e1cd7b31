-- How the marked lines of a text are found: the marks are walked beside the lines.
use Rattle.std.specs.Prelude.{ℕ, ◌≤◌, ◌+◌, ◌==◌, Bool, false, List, [], ◌∷◌, ⊤, if◌then◌else◌}
use Rattle.std.specs.Borrow.{Bor}

-- numbers ascend, each once, and none is below the first
unfoldable pub Rises : ℕ → List ℕ → Type 0
Rises first [] = ⊤
Rises first (n ∷ ns) = (first ≤ n) × Rises (n + 1) ns

-- the first of some numbers is that one
abbrev pub leads : ℕ → List ℕ → Bool
leads n [] = false
leads n (m ∷ ms) = m == n

-- the numbers without the first, if it is that one
abbrev pub without_first : ℕ → List ℕ → List ℕ
without_first n [] = []
without_first n (m ∷ ms) = if m == n then ms else m ∷ ms

-- the line that a slice stands for, and whether it is marked
abbrev pub marked_line : Bor (List ℕ) × Bool → List ℕ × Bool
marked_line l = (l.0.now, l.1)
