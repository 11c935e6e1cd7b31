-- Texts of files in which all editors count the same columns.
use Rattle.std.specs.Prelude.{◌==◌, ◌&&◌, ◌||◌, ℕ, Bool, false, not, nat_eq, List, [], ◌∷◌}
use Rattle.std.specs.List.{starts_with}
use Rattle.std.specs.Str.{is_utf8}

-- a byte order mark stands at the front
abbrev pub has_mark : List ℕ → Bool
has_mark text = starts_with nat_eq text (0xEF ∷ 0xBB ∷ 0xBF ∷ [])

-- a carriage return has no line feed after it
abbrev pub begins_with_feed : List ℕ → Bool
begins_with_feed [] = false
begins_with_feed (b ∷ bs) = b == 10

abbrev pub has_lone_return : List ℕ → Bool
has_lone_return [] = false
has_lone_return (b ∷ bs) = (b == 13 && not (begins_with_feed bs)) || has_lone_return bs

-- a text in UTF-8 that has neither
abbrev pub is_counted_alike : List ℕ → Bool
is_counted_alike text = is_utf8 text && not (has_mark text || has_lone_return text)
