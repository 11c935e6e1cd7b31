-- Words that may mean something to the scanner, by their first byte and their length.
use Rattle.std.specs.Prelude.{ℕ, Bool, false, ◌&&◌, ◌==◌, ◌-◌, ◌/◌, ◌%◌, ◌^◌, List, [], ◌∷◌, length}
use Rattle.std.specs.Prelude.{nat_le, nat_lt, slice_index}
use Rattle.cb_scan.specs.declared.lex.token.TheConstants.{LENGTHS}

-- a word with this first byte and of this length may be reserved, `define` or `include`: the bit of
-- the length is set in the byte's entry of the table
abbrev pub may_begin : ℕ → ℕ → Bool
may_begin first len = nat_le 95 first && nat_le first 122 && nat_lt len 16
    && (slice_index LENGTHS (first - 95) / 2 ^ len) % 2 == 1

unfoldable pub may_mean : List ℕ → Bool
may_mean [] = false
may_mean (b ∷ rest) = may_begin b (length (b ∷ rest))
