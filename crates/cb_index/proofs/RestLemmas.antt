-- The rest of a list from a place on.
use Rattle.std.proofs.Common.{◌≡◌, ℕ, zero, suc, List, [], ◌∷◌, refl, drop}
use Rattle.std.specs.Prelude.{slice_get}

-- its first element is the one at the place
pub at_front : {X : Type 0} (n : ℕ) (xs : List X) → slice_get xs n ≡ slice_get (drop n xs) 0
at_front zero xs = refl
at_front (suc n) [] = refl
at_front (suc n) (x ∷ xs) = at_front n xs

pub drop_next : {X : Type 0} (n : ℕ) (xs : List X) → drop (suc n) xs ≡ drop 1 (drop n xs)
drop_next zero xs = refl
drop_next (suc n) [] = refl
drop_next (suc n) (x ∷ xs) = drop_next n xs
