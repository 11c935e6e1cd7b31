-- What the pieces of a text are.
use Rattle.std.specs.Prelude.{◌≡◌, ◌<◌, ◌≤◌, ℕ, List, [], ◌∷◌, length}
use Rattle.cb_scan.specs.declared.lex.piece.Class.{Class}
use Rattle.cb_scan.specs.declared.lex.piece.Piece.{Piece}
use Rattle.cb_scan.specs.lex.Lexeme.{Lexeme}

-- no class has a longer lexeme than up to j at place i
abbrev pub IsLongest : List ℕ → ℕ → ℕ → Type 0
IsLongest text i j = (class : Class) (k : ℕ) → Lexeme class text i k → k ≤ j

-- ps covers the text from place i on without gaps: each is a lexeme of its class, and no class has
-- a longer one at its start
unfoldable pub ArePiecesFrom : List ℕ → ℕ → List Piece → Type 0
ArePiecesFrom text i [] = i ≡ length text
ArePiecesFrom text i (p ∷ ps) =
    (p.span.start ≡ i) × Lexeme p.class text i p.span.end × IsLongest text i p.span.end
    × ArePiecesFrom text p.span.end ps

-- ps are the pieces of the text
abbrev pub IsPieces : List ℕ → List Piece → Type 0
IsPieces text ps = ArePiecesFrom text 0 ps

-- from place i to place j each span begins where the one before it ends, and takes a byte at least
unfoldable pub Adjoin : ℕ → ℕ → List Piece → Type 0
Adjoin i j [] = i ≡ j
Adjoin i j (p ∷ ps) = (p.span.start ≡ i) × (i < p.span.end) × Adjoin p.span.end j ps

-- a span that takes a byte at least and lies in the text
abbrev pub LiesIn : List ℕ → Piece → Type 0
LiesIn text p = (p.span.start < p.span.end) × (p.span.end ≤ length text)
