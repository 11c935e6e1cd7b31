-- The scopes of a function: the function itself, its blocks, the statements that `for` begins, and
-- lists of parameters (ISO C 2011, 6.2.1 and 6.8.5, found in tokens by this project's profile). The
-- body of the function begins at index b; which indices begin a list is given.
use Rattle.std.specs.Prelude.{ℕ, zero, suc, ◌-◌, Bool, true, false, ◌&&◌, ◌||◌, not, List, [], ◌∷◌}
use Rattle.std.specs.Prelude.{length, find, if◌then◌else◌, Option, None, Some, unwrap_or}
use Rattle.std.specs.List.{range_with_len}
use Rattle.std.specs.Option.{option_map_or, option_or}
use Rattle.cb_scan.specs.Bytes.{open_paren, semicolon}
use Rattle.cb_names.specs.Braces.{is_block, kind_at}
use Rattle.cb_names.specs.Pairs.{at, closed_at, innermost, is_at, is_index, opened, partner}
use Rattle.cb_names.specs.Statements.{closes_block, is_for}
use Rattle.cb_names.specs.declared.scopes.Scope.{Scope}
use Rattle.cb_names.specs.declared.word.Item.{Item}
use Rattle.cb_names.specs.declared.word.Word.{Word}
use Rattle.cb_names.specs.declared.word.Word.TheVariants as word

-- ---- where brackets end

-- where the innermost of these brackets ends, which are open: at its partner; one without a partner
-- ends where the one around it does; none: at the end of the function
unfoldable pub end_of : List Item → List ℕ → Option ℕ
end_of xs [] = None
end_of xs (j ∷ around) = option_or (partner xs j) (end_of xs around)

abbrev pub end_around : List Item → ℕ → Option ℕ
end_around xs k = end_of xs (opened xs k)

-- the last index of the function, or of what ends there
abbrev pub or_last : List Item → Option ℕ → ℕ
or_last xs end = unwrap_or end (length xs - 1)

-- ---- the statement of a `for`

abbrev pub is_else : Word → Bool
is_else word.Else = true
is_else _ = false

-- a `for` begins at index k
abbrev pub begins_for : List Item → ℕ → Bool
begins_for xs k = is_for (at xs k).word && is_at open_paren xs (suc k)

-- the bracket around which index k stands: that of a bracket that closes is the one around its pair
abbrev pub level_of : List Item → ℕ → Option ℕ
level_of xs k = option_map_or (λ j. innermost xs j) (closed_at xs k) (innermost xs k)

-- a statement ends at index k, and no `else` goes on with it
abbrev pub ends_for : List Item → ℕ → ℕ → Bool
ends_for xs b k =
    (is_at semicolon xs k || closes_block xs b k) && not (is_else (at xs (suc k)).word)

-- the same where the bracket at index j is around
abbrev pub ends_on : List Item → ℕ → (j k : ℕ) → Bool
ends_on xs b j k = ends_for xs b k && is_index j (level_of xs k)

abbrev pub begins_on : List Item → (j k : ℕ) → Bool
begins_on xs j k = begins_for xs k && is_index j (innermost xs k)

-- the first such end from index k on
abbrev pub first_end : List Item → ℕ → (j k : ℕ) → Option ℕ
first_end xs b j k = find (ends_on xs b j) (range_with_len k (length xs - k))

-- the nearest `for` before index k in the bracket at index j whose statement goes on there
unfoldable pub for_before : List Item → ℕ → (j k : ℕ) → Option ℕ
for_before xs b j zero = None
for_before xs b j (suc k) =
    if begins_on xs j k then Some k
    else (if ends_on xs b j k then None else for_before xs b j k)

-- ---- scopes

-- from the first index to the last
abbrev pub whole : List Item → Scope
whole xs = record { first = 0; last = or_last xs None }

-- of the bracket at index j
abbrev pub scope_of_bracket : List Item → ℕ → Scope
scope_of_bracket xs j = record { first = j; last = or_last xs (end_of xs (j ∷ opened xs j)) }

-- where the statement of the `for` at index k ends
abbrev pub for_end : List Item → ℕ → ℕ → Option ℕ
for_end xs b k = option_map_or (λ j. first_end xs b j k) (innermost xs k) None

-- of the `for` at index k: up to the end of its statement, or of what is around
abbrev pub scope_of_for : List Item → ℕ → ℕ → Scope
scope_of_for xs b k = record {
  first = k;
  last = or_last xs (option_or (for_end xs b k) (end_around xs k));
}

-- the `for` that is directly before index j
unfoldable pub for_of : List Item → ℕ → Option ℕ
for_of xs zero = None
for_of xs (suc k) = if begins_for xs k then Some k else None

-- the innermost scope around index k, around which these brackets are open, the innermost first
unfoldable pub scope_in : (ℕ → Bool) → List Item → ℕ → ℕ → List ℕ → Scope
scope_in is_list xs b k [] = whole xs
scope_in is_list xs b k (j ∷ around) =
    if is_block (kind_at xs b j)
    then option_map_or (scope_of_for xs b) (for_before xs b j k) (scope_of_bracket xs j)
    else option_map_or (scope_of_for xs b) (for_of xs j)
    (if is_list j then scope_of_bracket xs j else scope_in is_list xs b j around)

abbrev pub scope_at : (ℕ → Bool) → List Item → ℕ → ℕ → Scope
scope_at is_list xs b k = scope_in is_list xs b k (opened xs k)
