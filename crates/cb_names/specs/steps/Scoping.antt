-- What passes over tokens know of scopes.
use Rattle.std.specs.Prelude.{ℕ, Bool, List, if◌then◌else◌, Option, None, nat_le, nat_lt}
use Rattle.std.specs.Prelude.{length, slice_index_or, slice_set, false}
use Rattle.std.specs.Option.{option_map_or, option_or}
use Rattle.cb_names.specs.Braces.{is_block}
use Rattle.cb_names.specs.Pairs.{innermost}
use Rattle.cb_names.specs.Scopes.{for_of, or_last, whole}
use Rattle.cb_names.specs.declared.braces.Brace.{Brace}
use Rattle.cb_names.specs.declared.braces.Brace.TheVariants.{Other}
use Rattle.cb_names.specs.declared.scopes.Scope.{Scope}
use Rattle.cb_names.specs.declared.word.Item.{Item}
use Rattle.cb_names.specs.steps.Pairing.{answer}
use Rattle.cb_names.specs.steps.Starting.{closed_by}

-- an answer in the place of another, if there is such a place
abbrev pub put : List (Option ℕ) → Option ℕ → Option ℕ → List (Option ℕ)
put table o y =
    option_map_or (λ i. if nat_lt i (length table) then slice_set table i y else table) o table

-- the same, if it is so
abbrev pub put_if : List (Option ℕ) → Bool → Option ℕ → Option ℕ → List (Option ℕ)
put_if table is o y = if is then put table o y else table

-- the bracket around which an index stands that pairs with this one
abbrev pub level_by : List Item → List (Option ℕ) → Option ℕ → ℕ → Option ℕ
level_by xs around pair k =
    option_map_or (λ j. answer around j) (closed_by xs k pair) (answer around k)

-- where the innermost bracket ends
abbrev pub end_by : List (Option ℕ) → List (Option ℕ) → Option ℕ → Option ℕ
end_by partners ends o = option_map_or (λ j. option_or (answer partners j) (answer ends j)) o None

-- the answer for the bracket around an index
abbrev pub around_answer : List Item → List (Option ℕ) → ℕ → Option ℕ
around_answer xs table k = option_map_or (λ j. answer table j) (innermost xs k) None

-- an answer from an index on
abbrev pub from_index : (ℕ → Option ℕ) → ℕ → ℕ → Option ℕ
from_index f k i = if nat_le k i then f i else None

-- the scope of a bracket, and that of a `for`, by where brackets and statements end
abbrev pub bracket_scope : List Item → List (Option ℕ) → List (Option ℕ) → ℕ → Scope
bracket_scope xs partners ends j = record {
  first = j;
  last = or_last xs (option_or (answer partners j) (answer ends j));
}

abbrev pub for_scope : List Item → List (Option ℕ) → List (Option ℕ) → ℕ → Scope
for_scope xs for_ends ends k = record {
  first = k;
  last = or_last xs (option_or (answer for_ends k) (answer ends k));
}

-- the innermost scope around an index, by the bracket around it, the `for` before each and the scopes
-- around what is before
abbrev pub scope_by : List Item → List (Option ℕ) → List Brace → List (Option ℕ) → List (Option ℕ)
    → List Bool → List (Option ℕ) → List Scope → Option ℕ → Scope
scope_by xs partners kinds ends for_ends lists fors scopes o =
    option_map_or (λ j. if is_block (slice_index_or kinds j Other)
    then option_map_or (for_scope xs for_ends ends) (answer fors j) (bracket_scope xs partners ends j)
    else option_map_or (for_scope xs for_ends ends) (for_of xs j)
    (if slice_index_or lists j false then bracket_scope xs partners ends j
    else slice_index_or scopes j (whole xs))) o (whole xs)
