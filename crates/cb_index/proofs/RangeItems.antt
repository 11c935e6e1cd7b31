-- Ranges of numbers.
use Rattle.std.proofs.Common.{◌≡◌, ℕ, suc, ◌∷◌, ap, arith}
use Rattle.std.specs.List.{range_with_len}

pub range_next : (n count : ℕ) → range_with_len n (suc count) ≡ n ∷ range_with_len (suc n) count
range_next n count = ap (λ k. n ∷ range_with_len k count) (omega arith)
