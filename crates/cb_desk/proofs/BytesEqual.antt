-- Equality of bytes goes both ways.
use Rattle.std.proofs.Common.{◌≡◌, ◌∙◌, sym, refl, ℕ, Bool, true, false, List, bytes_eq}
use Rattle.std.proofs.lemmas.Slice.Eq.{bytes_eq-Decides}

pub bytes-turned : (a b : List ℕ) → bytes_eq a b ≡ bytes_eq b a
bytes-turned a b = by_cases (bytes_eq a b) (bytes_eq b a) refl refl
  where
    by_cases : (x y : Bool) → bytes_eq a b ≡ x → bytes_eq b a ≡ y → x ≡ y
    by_cases true true e k = refl
    by_cases false false e k = refl
    by_cases true false e k = sym ((bytes_eq-Decides b a).1 (sym ((bytes_eq-Decides a b).0 e))) ∙ k
    by_cases false true e k = sym e ∙ (bytes_eq-Decides a b).1 (sym ((bytes_eq-Decides b a).0 k))
