-- Elements whose places ascend.
use Rattle.std.specs.Prelude.{ℕ, suc, Bool, true, ◌&&◌, nat_le, List, [], ◌∷◌}

-- each element is at the place or after it, and after the element before it
abbrev pub ascend_from : {X : Type 0} → (X → ℕ) → ℕ → List X → Bool
ascend_from place_of place [] = true
ascend_from place_of place (x ∷ xs) =
    nat_le place (place_of x) && ascend_from place_of (suc (place_of x)) xs
