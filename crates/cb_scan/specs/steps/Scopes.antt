-- The scopes of places that come in order, range by range.
use Rattle.std.specs.Prelude.{◌≡◌, ◌≤◌, ◌<◌, ℕ, nat_le, nat_lt, List, [], ◌∷◌, Option, Some, None}
use Rattle.std.specs.Prelude.{if◌then◌else◌}
use Rattle.std.specs.Option.{option_map_or}
use Rattle.cb_scan.specs.declared.facts.Include.{Include}
use Rattle.cb_scan.specs.declared.facts.Use.{Use}
use Rattle.cb_scan.specs.declared.lex.piece.Span.{Span}
use Rattle.cb_scan.specs.declared.rules.scope.Range.{Range}
use Rattle.cb_scan.specs.declared.lex.token.Token.{Token}

-- the ranges without those at the beginning that end by a place
abbrev pub reached : ℕ → List Range → List Range
reached place [] = []
reached place (r ∷ rs) = if nat_lt place r.end then r ∷ rs else reached place rs

-- the name of the first range, if it has begun by a place
abbrev pub first_around : ℕ → List Range → Option Span
first_around place [] = None
first_around place (r ∷ rs) = if nat_le r.name.start place then Some r.name else None

-- the first macro around a place, else the first function
abbrev pub around : List Range → List Range → ℕ → Option Span
around functions macros place =
    option_map_or (λ name. Some name) (first_around place macros) (first_around place functions)

-- ranges of functions and of macros
pub record Ranges : Type 0 where
  pub functions : List Range
  pub macros : List Range

-- at the places from one up to another, ranges give what they give at the first
abbrev pub Stays : ℕ → ℕ → List Range → Type 0
Stays from until rs = (q : ℕ) → from ≤ q → q < until
    → (reached q rs ≡ rs) × (first_around q rs ≡ first_around from rs)

-- the places from one up to another have the scope, and none of the ranges ends by them
abbrev pub Keeps : List Range → List Range → ℕ → ℕ → Option Span → Type 0
Keeps functions macros from until scope = (q : ℕ) → from ≤ q → q < until
    → (reached q functions ≡ functions) × (reached q macros ≡ macros)
    × (around functions macros q ≡ scope)

-- elements with their scopes, by their places
abbrev pub scoped : {A B : Type 0} → (A → ℕ) → (A → Option Span → B) → List Range → List Range
    → List A → List B
scoped place give functions macros [] = []
scoped place give functions macros (x ∷ xs) =
    give x (around (reached (place x) functions) (reached (place x) macros) (place x))
    ∷ scoped place give (reached (place x) functions) (reached (place x) macros) xs

-- where a token begins, and what it is as a use
abbrev pub token_place : Token → ℕ
token_place t = t.span.start

abbrev pub use_of : Token → Option Span → Use
use_of t scope = record { name = t.span; line = t.line; scope = scope }

-- where a header begins, and its include with a scope
abbrev pub include_place : Include → ℕ
include_place i = i.header.start

abbrev pub include_with : Include → Option Span → Include
include_with i scope = record { header = i.header; line = i.line; scope = scope }
