-- What one pass over tokens knows of braces.
use Rattle.std.specs.Prelude.{ℕ, Bool, false, ◌&&◌, ◌||◌, List, Option, slice_index_or}
use Rattle.std.specs.Option.{option_map_or}
use Rattle.cb_names.specs.Braces.{is_keyword_at, is_name_at, is_value}
use Rattle.cb_names.specs.declared.braces.Brace.{Brace}
use Rattle.cb_names.specs.declared.braces.Brace.TheVariants.{Other}
use Rattle.cb_names.specs.declared.word.Item.{Item}

-- the bracket that is open around a token is the `{` of a value
abbrev pub is_in_value : List Brace → Option ℕ → Bool
is_in_value kinds around = option_map_or (λ j. is_value (slice_index_or kinds j Other)) around false

-- one of the three words is directly before the token behind index k, or before the names there
abbrev pub keyword_after : List Item → ℕ → Bool → Bool
keyword_after xs k keyword = is_keyword_at xs k || (is_name_at xs k && keyword)
