-- How far the attributes reach that begin before a token.
use Rattle.std.specs.Prelude.{ℕ, Bool, false, nat_le, Option, Some, if◌then◌else◌}
use Rattle.std.specs.Option.{option_map_or}

-- the last index that is of an attribute, after one more that ends there
abbrev pub farther : Option ℕ → Option ℕ → Option ℕ
farther end last =
    option_map_or (λ e. option_map_or (λ l. if nat_le l e then Some e else Some l) last (Some e))
    end last

-- an attribute reaches index i
abbrev pub reaches : Option ℕ → ℕ → Bool
reaches last i = option_map_or (λ l. nat_le i l) last false
