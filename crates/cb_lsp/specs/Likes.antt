-- Texts in others, without regard to the case of ASCII letters.
use Rattle.std.specs.Prelude.{ℕ, Bool, ◌&&◌, ◌||◌, List, [], ◌∷◌, take, length, nat_le}
use Rattle.std.specs.Str.{str_eq_ignore_ascii_case}

-- a text begins with another
abbrev pub begins_like : (part text : List ℕ) → Bool
begins_like part text =
    nat_le (length part) (length text)
    && str_eq_ignore_ascii_case (take (length part) text) part

-- a text holds another
abbrev pub holds_like : (part text : List ℕ) → Bool
holds_like part [] = begins_like part []
holds_like part (b ∷ bs) = begins_like part (b ∷ bs) || holds_like part bs
