-- Attributes that are left out wherever they stand: a word such as `__attribute__` and the
-- parentheses directly behind it. This is the project's profile.
use Rattle.std.specs.Prelude.{ℕ, Bool, true, false, ◌&&◌, ◌+◌, nat_le, List, [], ◌∷◌, length}
use Rattle.std.specs.Prelude.{if◌then◌else◌, Option, None}
use Rattle.std.specs.List.{flat_map, list_any, range_with_len}
use Rattle.std.specs.Option.{option_map_or}
use Rattle.cb_scan.specs.Bytes.{open_paren}
use Rattle.cb_names.specs.Pairs.{at, is_at, partner}
use Rattle.cb_names.specs.declared.word.Item.{Item}
use Rattle.cb_names.specs.declared.word.Word.{Word}
use Rattle.cb_names.specs.declared.word.Word.TheVariants as word

-- a word that begins such an attribute
abbrev pub is_hard : Word → Bool
is_hard word.Hard = true
is_hard _ = false

-- the last index of the attribute that begins at index j, if one does
abbrev pub hard_end : List Item → ℕ → Option ℕ
hard_end xs j =
    if is_hard (at xs j).word && is_at open_paren xs (j + 1) then partner xs (j + 1) else None

-- the attribute that begins at index j holds index i
abbrev pub holds : List Item → ℕ → ℕ → Bool
holds xs i j = option_map_or (λ end. nat_le i end) (hard_end xs j) false

-- index i is of an attribute that begins at it or before it
abbrev pub is_left_out : List Item → ℕ → Bool
is_left_out xs i = list_any (holds xs i) (range_with_len 0 (i + 1))

-- the tokens that are of no such attribute
abbrev pub kept_at : List Item → ℕ → List Item
kept_at xs i = if is_left_out xs i then [] else at xs i ∷ []

abbrev pub without_hard : List Item → List Item
without_hard xs = flat_map (kept_at xs) (range_with_len 0 (length xs))
