-- Which names a function declares, and which of its parentheses are lists of parameters that are
-- scopes (ISO C 2011, 6.7, 6.7.2.2 and 6.9.1, found in tokens by this project's profile). Its name
-- has index m, and its body begins at index b.
use Rattle.std.specs.Prelude.{ℕ, zero, suc, Bool, true, false, ◌&&◌, ◌||◌, ◌==◌, nat_lt, List}
use Rattle.std.specs.Prelude.{if◌then◌else◌, length, not, Option, None, Some}
use Rattle.std.specs.List.{list_any, range_with_len}
use Rattle.std.specs.Option.{option_map_or}
use Rattle.cb_scan.specs.Bytes.{close_paren, comma, open_brace, open_paren, semicolon}
use Rattle.cb_scan.specs.declared.rules.wide.role.WideRole.{WideRole}
use Rattle.cb_scan.specs.declared.rules.wide.role.WideRole.TheVariants as wide
use Rattle.cb_names.specs.Braces.{is_name_at, kind_at}
use Rattle.cb_names.specs.Declarations.{is_declaration}
use Rattle.cb_names.specs.Declarators.{Finding, both, found_in_declaration, found_in_list, nothing}
use Rattle.cb_names.specs.Pairs.{at, innermost, is_at, is_index, partner}
use Rattle.cb_names.specs.Scopes.{for_of}
use Rattle.cb_names.specs.Statements.{starts}
use Rattle.cb_names.specs.declared.braces.Brace.{Brace}
use Rattle.cb_names.specs.declared.braces.Brace.TheVariants.{Body}
use Rattle.cb_names.specs.declared.word.Item.{Item}

-- ---- the lists of the function

abbrev pub is_paired : List Item → ℕ → Bool
is_paired xs k = option_map_or (λ p. true) (partner xs k) false

-- index k, if parentheses begin there
abbrev pub if_list : List Item → ℕ → Option ℕ
if_list xs k = if is_at open_paren xs k && is_paired xs k then Some k else None

-- the list of its own: it directly follows the name, or a `)` directly behind that
abbrev pub own_list : List Item → ℕ → Option ℕ
own_list xs m =
    if is_at close_paren xs (suc m) then if_list xs (suc (suc m)) else if_list xs (suc m)

-- index k is behind the partner of index j
abbrev pub is_behind : List Item → (j k : ℕ) → Bool
is_behind xs j k = option_map_or (λ p. nat_lt p k) (partner xs j) false

-- no bracket is around index k
abbrev pub is_outside : List Item → ℕ → Bool
is_outside xs k = option_map_or (λ j. false) (innermost xs k) true

-- index k begins a list of the function: its own one, and parentheses of the head behind that which
-- no bracket is around; any such, where it has no list of its own
abbrev pub is_head_list : List Item → (own : Option ℕ) → (b : ℕ) → ℕ → Bool
is_head_list xs own b k =
    nat_lt k b && is_at open_paren xs k && is_paired xs k
    && option_map_or (λ j. k == j || (is_outside xs k && is_behind xs j k)) own (is_outside xs k)

-- ---- the old style

-- a `;` stands in the head, behind its own list
abbrev pub is_old : List Item → (own : Option ℕ) → (b : ℕ) → Bool
is_old xs own b =
    option_map_or (λ j. list_any (λ k. is_at semicolon xs k && is_behind xs j k) (range_with_len 0 b))
    own false

-- index k is directly behind a `;`, or the `)` of the list at index j
unfoldable pub follows_stop : List Item → ℕ → ℕ → Bool
follows_stop xs j zero = false
follows_stop xs j (suc k) = is_at semicolon xs k || is_index k (partner xs j)

-- a declaration of parameters begins at index k
abbrev pub begins_old : List Item → (own : Option ℕ) → (b : ℕ) → ℕ → Bool
begins_old xs own b k =
    nat_lt k b && option_map_or (λ j. is_behind xs j k && follows_stop xs j k) own false
    && is_old xs own b

-- the byte or a comma is directly before index k
unfoldable pub follows_comma : List Item → ℕ → ℕ → Bool
follows_comma xs byte zero = false
follows_comma xs byte (suc k) = is_at byte xs k || is_at comma xs k

-- the innermost bracket around index k is that of its own list
abbrev pub is_in_own : List Item → (own : Option ℕ) → ℕ → Bool
is_in_own xs own k = option_map_or (λ j. is_index j (innermost xs k)) own false

-- index k is a parameter by its name alone
abbrev pub is_bare : List Item → (own : Option ℕ) → (b : ℕ) → ℕ → Bool
is_bare xs own b k =
    is_name_at xs k && is_in_own xs own k && follows_comma xs open_paren k
    && (is_at comma xs (suc k) || is_at close_paren xs (suc k)) && is_old xs own b

-- ---- enumerators

abbrev pub is_enum : WideRole → Bool
is_enum wide.Enum = true
is_enum _ = false

-- `enum` is directly before index k, or directly before the names there
unfoldable pub follows_enum : List Item → ℕ → Bool
follows_enum xs zero = false
follows_enum xs (suc k) = is_enum (at xs k).token.role || (is_name_at xs k && follows_enum xs k)

abbrev pub is_body : Brace → Bool
is_body Body = true
is_body _ = false

-- index k is an enumerator: a name with which a part of the body of an enumeration begins, and which
-- is not called
abbrev pub is_enumerator : List Item → ℕ → ℕ → Bool
is_enumerator xs b k =
    is_name_at xs k && not (is_at open_paren xs (suc k)) && follows_comma xs open_brace k
    && option_map_or (λ j. is_body (kind_at xs b j) && follows_enum xs j) (innermost xs k) false

-- ---- all of it

-- index k is directly behind `for (`
unfoldable pub behind_for : List Item → ℕ → Bool
behind_for xs zero = false
behind_for xs (suc k) = option_map_or (λ i. true) (for_of xs k) false

-- a declaration of a block, or behind `for (`, begins at index k
abbrev pub begins_declaration : List Item → ℕ → ℕ → Bool
begins_declaration xs b k = (starts xs b k || behind_for xs k) && is_declaration xs k

-- index k is one of a list
abbrev pub contains : List ℕ → ℕ → Bool
contains ks k = list_any (λ x. x == k) ks

-- what is found at index k, where a list begins there or not
abbrev pub found_at : List Item → (own : Option ℕ) → (b : ℕ) → Bool → ℕ → Finding
found_at xs own b is_list k =
    if begins_declaration xs b k then found_in_declaration xs false k
    else (if begins_old xs own b k then found_in_declaration xs true k
    else (if is_head_list xs own b k || is_list then found_in_list xs k else nothing))

-- what is found before index k: a list can have lists inside
unfoldable pub found_before : List Item → (own : Option ℕ) → (b : ℕ) → ℕ → Finding
found_before xs own b zero = nothing
found_before xs own b (suc k) =
    let before = found_before xs own b k in
    both before (found_at xs own b (contains before.lists k) k)

abbrev pub found : List Item → (own : Option ℕ) → (b : ℕ) → Finding
found xs own b = found_before xs own b (length xs)

-- index k declares a name; it begins a list of parameters that is a scope
abbrev pub declares : List Item → (m b : ℕ) → ℕ → Bool
declares xs m b k =
    contains (found xs (own_list xs m) b).names k || is_bare xs (own_list xs m) b k
    || is_enumerator xs b k

abbrev pub is_list : List Item → (m b : ℕ) → ℕ → Bool
is_list xs m b k = contains (found xs (own_list xs m) b).lists k
