-- What one pass over tokens knows of their brackets.
use Rattle.std.specs.Prelude.{◌≡◌, ℕ, ◌==◌, List, [], ◌∷◌, if◌then◌else◌, Option, None, Some}
use Rattle.std.specs.Prelude.{slice_index_or}
use Rattle.std.specs.Option.{option_map_or}
use Rattle.cb_scan.specs.Bytes.{open_brace}
use Rattle.cb_names.specs.Pairs.{ends_all, innermost, is_at, opened, opens, partner_among, sign}
use Rattle.cb_names.specs.Tables.{IsTable}
use Rattle.cb_names.specs.declared.pairs.Pairing.{Pairing}
use Rattle.cb_names.specs.declared.word.Item.{Item}

-- the answer for an index; none where there is none
abbrev pub answer : List (Option ℕ) → ℕ → Option ℕ
answer table i = slice_index_or table i None

-- of brackets that are open, the innermost first, the nearest that is another byte than b
unfoldable pub nearest_other : ℕ → List Item → List ℕ → Option ℕ
nearest_other b xs [] = None
nearest_other b xs (j ∷ around) =
    if sign xs j == b then nearest_other b xs around else Some j

-- the nearest bracket around an open one that is of another kind
abbrev pub other : List Item → ℕ → Option ℕ
other xs j = if opens xs j then nearest_other (sign xs j) xs (opened xs j) else None

-- the bracket, if it is the lone byte b
abbrev pub if_at : ℕ → List Item → Option ℕ → Option ℕ
if_at b xs o = option_map_or (λ i. if is_at b xs i then Some i else None) o None

-- the nearest bracket that is the lone byte b, from the innermost one on
abbrev pub nearest_by : ℕ → List Item → List (Option ℕ) → Option ℕ → Option ℕ
nearest_by b xs others top =
    option_map_or (λ t. if is_at b xs t then Some t
    else (if is_at open_brace xs t then None else if_at b xs (answer others t))) top None

-- the nearest bracket around index k that is of another kind
abbrev pub other_by : List Item → List (Option ℕ) → Option ℕ → ℕ → Option ℕ
other_by xs others top k =
    option_map_or (λ t. if sign xs t == sign xs k then answer others t else Some t) top None

-- the outermost `{` so far, after one more bracket outwards
abbrev pub lowest_after : List Item → ℕ → Option ℕ → Option ℕ
lowest_after xs i lowest = if is_at open_brace xs i then Some i else lowest

-- what stays open of a bracket after index k: nothing, if it ends all
abbrev pub kept_after : List Item → ℕ → Option ℕ → Option ℕ
kept_after xs k left = if ends_all xs k then None else left

-- what is known after the first k tokens
pub record HoldsPairs (xs : List Item) (k : ℕ) (s : Pairing) : Type 0 where
  pub around : IsTable (innermost xs) k s.around.items
  pub partner : IsTable (partner_among xs k) k s.partner.items
  pub others : IsTable (other xs) k s.others.items
  pub top : s.top ≡ innermost xs k
