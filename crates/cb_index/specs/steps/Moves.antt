-- What becomes of the indexes of a shelf.
use Rattle.std.specs.Prelude.{ℕ, ◌≡◌, ◌≤◌, ◌+◌, ◌++◌, [], ◌∷◌, List, length, filter, not, nat_eq}
use Rattle.std.specs.Prelude.{Some}
use Rattle.cb_index.specs.Archived.{Archived}
use Rattle.cb_index.specs.Files.{shown_under}
use Rattle.cb_index.specs.Held.{Indexed}
use Rattle.cb_index.specs.Names.{is_among}
use Rattle.cb_index.specs.Shelved.{IsIndex}
use Rattle.cb_index.specs.declared.entry.Posting.{Posting}
use Rattle.cb_index.specs.declared.entry.Shown.{Shown}

-- each of some indexes becomes another one, in a way
abbrev pub Become : (Indexed → Indexed → Type 0) → List Indexed → List Indexed → Type 0
Become way [] [] = Unit {0}
Become way [] (y ∷ ys) = ⊥
Become way (x ∷ xs) [] = ⊥
Become way (x ∷ xs) (y ∷ ys) = way x y × Become way xs ys

-- an index stays one of its kind, with at least as much room
pub record StaysItself (x y : Indexed) : Type 0 where
  pub kind : y.kind ≡ x.kind
  pub room : x.room ≤ y.room
  pub version_room : x.version_room ≤ y.version_room

-- what it holds and what is pending stays too
pub record StaysSame (x y : Indexed) : Type 0 where
  pub itself : StaysItself x y
  pub held : y.held ≡ x.held
  pub pending : y.pending ≡ x.pending

-- an index has room for more versions to be pending
abbrev pub CanTakeIn : List Shown → Indexed → Type 0
CanTakeIn news x = length x.pending + length news ≤ x.version_room

-- they are pending
pub record TakesIn (news : List Shown) (x y : Indexed) : Type 0 where
  pub itself : StaysItself x y
  pub held : y.held ≡ x.held
  pub pending : y.pending ≡ x.pending ++ news

-- what is shown under the name of a version goes
pub record LetsGo (a : Archived) (one : Shown) (x y : Indexed) : Type 0 where
  pub itself : StaysItself x y
  pub others : (shown : List Shown) → IsIndex a shown x → shown_under one.name shown ≡ Some one
      → IsIndex a (filter (λ (s : Shown). not (nat_eq s.name one.name)) shown) y

-- what is shown under some names goes
pub record LetsGoAll (names : List ℕ) (x y : Indexed) : Type 0 where
  pub itself : StaysItself x y
  pub held : y.held ≡ filter (λ (e : Posting). not (is_among names e.name)) x.held
  pub pending : y.pending ≡ filter (λ (s : Shown). not (is_among names s.name)) x.pending
