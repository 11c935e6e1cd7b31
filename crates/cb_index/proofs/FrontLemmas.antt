-- Elements of a list that goes on, or of its front.
use Rattle.std.proofs.Common.{◌≡◌, ◌<◌, ℕ, zero, suc, List, [], ◌∷◌, ◌++◌, refl, length, take}
use Rattle.std.proofs.Common.{get_or, arith}
use Rattle.std.specs.Prelude.{slice_get}

pub slice_get_left : (xs ys : List (List ℕ)) (i : ℕ) → i < length xs
    → slice_get (xs ++ ys) i ≡ slice_get xs i
slice_get_left [] ys i below = absurd (omega (arith, below))
slice_get_left (x ∷ xs) ys zero below = refl
slice_get_left (x ∷ xs) ys (suc i) below = slice_get_left xs ys i (omega (arith, below))

pub get_or_left : (xs ys : List (List ℕ)) (i : ℕ) → i < length xs
    → get_or (xs ++ ys) i [] ≡ get_or xs i []
get_or_left [] ys i below = absurd (omega (arith, below))
get_or_left (x ∷ xs) ys zero below = refl
get_or_left (x ∷ xs) ys (suc i) below = get_or_left xs ys i (omega (arith, below))

pub slice_get_front : (n : ℕ) (xs : List (List ℕ)) (i : ℕ) → i < n
    → slice_get (take n xs) i ≡ slice_get xs i
slice_get_front zero xs i below = absurd (omega (arith, below))
slice_get_front (suc n) [] i below = refl
slice_get_front (suc n) (x ∷ xs) zero below = refl
slice_get_front (suc n) (x ∷ xs) (suc i) below = slice_get_front n xs i (omega (arith, below))

pub get_or_front : (n : ℕ) (xs : List (List ℕ)) (i : ℕ) → i < n
    → get_or (take n xs) i [] ≡ get_or xs i []
get_or_front zero xs i below = absurd (omega (arith, below))
get_or_front (suc n) [] i below = refl
get_or_front (suc n) (x ∷ xs) zero below = refl
get_or_front (suc n) (x ∷ xs) (suc i) below = get_or_front n xs i (omega (arith, below))

pub length_front : (n : ℕ) (xs : List (List ℕ)) (i : ℕ) → i < n → i < length xs
    → i < length (take n xs)
length_front zero xs i below within = absurd (omega (arith, below))
length_front (suc n) [] i below within = within
length_front (suc n) (x ∷ xs) zero below within = omega arith
length_front (suc n) (x ∷ xs) (suc i) below within =
    let later = length_front n xs i (omega (arith, below)) (omega (arith, within)) in
    omega (arith, later)
