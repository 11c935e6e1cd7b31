-- A key as a number of 31 bits, by which most keys are told apart.
use Rattle.std.specs.Prelude.{ℕ, ◌+◌, ◌-◌, ◌*◌, ◌/◌, ◌%◌, ◌^◌, nat_lt, if◌then◌else◌, List, length}
use Rattle.std.specs.Prelude.{drop}
use Rattle.cb_scan.specs.Keys.{key_prefix}

-- the last eight bytes of a key as a number, where it is longer than that
unfoldable pub key_end : List ℕ → ℕ
key_end key = if nat_lt 8 (length key) then key_prefix (drop (length key - 8) key) else 0

unfoldable pub hash : List ℕ → ℕ
hash key =
    let whole = ((key_prefix key + key_end key * 0x9e37_79b9_7f4a_7c15 % 2 ^ 64) % 2 ^ 64
    + length key) % 2 ^ 64 in
    let folded = (whole + whole / 2 ^ 32) % 2 ^ 64 in
    folded * 0x9e37_79b9_7f4a_7c15 % 2 ^ 64 / 2 ^ 33
