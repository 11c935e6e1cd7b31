-- The first bytes of a key as a number.
use Rattle.std.specs.Prelude.{ℕ, zero, suc, ◌+◌, ◌*◌, ◌^◌, List, [], ◌∷◌}

-- the first `n` bytes of a key as a big-endian number; where the key has fewer, zeros follow
abbrev pub leading : ℕ → List ℕ → ℕ
leading zero key = 0
leading (suc n) [] = 0
leading (suc n) (b ∷ bs) = b * 256 ^ n + leading n bs

-- the first eight bytes of a key as a number
abbrev pub key_prefix : List ℕ → ℕ
key_prefix key = leading 8 key
