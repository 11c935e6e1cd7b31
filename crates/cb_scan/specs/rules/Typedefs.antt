-- The names that typedefs define (ISO C 2011, 6.7.8, found in tokens by this project's profile).
use Rattle.std.specs.Prelude.{ℕ, suc, ◌+◌, ◌-◌, Bool, false, ◌&&◌, ◌||◌, ◌==◌, not, List, [], ◌∷◌}
use Rattle.std.specs.Prelude.{length, Option, None, Some, if◌then◌else◌, find}
use Rattle.std.specs.List.{flat_map, range_with_len, slice_split}
use Rattle.std.specs.Option.{option_map_or, option_to_list}
use Rattle.cb_scan.specs.declared.lex.token.Token.{Token}
use Rattle.cb_scan.specs.lex.Tokens.{is_mark, is_name_token, is_typedef}
use Rattle.cb_scan.specs.rules.Depth.{depth, head_start, token_at}
use Rattle.cb_scan.specs.Bytes.{close_brace, close_bracket, close_paren, comma, open_brace}
use Rattle.cb_scan.specs.Bytes.{open_bracket, open_paren, semicolon, star}

-- token k is a `typedef` that directly follows a stop
abbrev pub begins_typedef : List Token → ℕ → Bool
begins_typedef ts k = is_typedef (token_at ts k).role && head_start ts k == k

-- token k is a `;` at depth 0
abbrev pub ends_declaration : List Token → ℕ → Bool
ends_declaration ts k = is_mark semicolon (token_at ts k).role && depth ts k == 0

-- the first token from k on that ends a typedef or begins another
abbrev pub typedef_stop : List Token → ℕ → Option ℕ
typedef_stop ts k = find (λ j. ends_declaration ts j || begins_typedef ts j)
    (range_with_len k (length ts - k))

-- token k if it is taken: it is at depth 0 and is no brace
abbrev pub taken_at : List Token → ℕ → List Token
taken_at ts k =
    let t = token_at ts k in
    if depth ts k == 0 && not (is_mark open_brace t.role || is_mark close_brace t.role) then t ∷ []
    else []

-- the tokens taken from k up to j
abbrev pub taken : List Token → ℕ → ℕ → List Token
taken ts k j = flat_map (taken_at ts) (range_with_len k (j - k))

-- a token with the number of parentheses and brackets open before it
pub record Nested : Type 0 where
  pub token : Token
  pub nesting : ℕ

-- the nesting after a token: `(` and `[` add one, `)` and `]` take one, never below 0
abbrev pub nesting_after : Token → ℕ → ℕ
nesting_after t n =
    if is_mark open_paren t.role || is_mark open_bracket t.role then n + 1
    else (if is_mark close_paren t.role || is_mark close_bracket t.role then n - 1 else n)

-- each token with its nesting, from a nesting on
unfoldable pub nested : ℕ → List Token → List Nested
nested n [] = []
nested n (t ∷ ts) = record { token = t; nesting = n } ∷ nested (nesting_after t n) ts

-- a comma outside parentheses and brackets
abbrev pub parts_here : Nested → Bool
parts_here x = is_mark comma x.token.role && x.nesting == 0

-- the parts between such commas
abbrev pub parts : List Token → List (List Nested)
parts ts = slice_split parts_here (nested 0 ts)

-- the list begins with any number of `*`s, and then a name: that name
unfoldable pub name_after_stars : List Nested → Option Token
name_after_stars [] = None
name_after_stars (x ∷ xs) =
    if is_mark star x.token.role then name_after_stars xs
    else (if is_name_token x.token.role then Some x.token else None)

-- the list begins with a `*`
abbrev pub begins_with_star : List Nested → Bool
begins_with_star [] = false
begins_with_star (x ∷ xs) = is_mark star x.token.role

-- the first name of a part that directly follows a `(` and one or more `*`
unfoldable pub pointer_name : List Nested → Option Token
pointer_name [] = None
pointer_name (x ∷ xs) =
    if is_mark open_paren x.token.role && begins_with_star xs
    then (option_map_or (λ name. Some name) (name_after_stars xs) (pointer_name xs))
    else pointer_name xs

-- its last name outside parentheses and brackets
unfoldable pub last_name : Option Token → List Nested → Option Token
last_name found [] = found
last_name found (x ∷ xs) =
    last_name (if is_name_token x.token.role && x.nesting == 0 then Some x.token else found) xs

-- the name that a part defines
abbrev pub part_name : List Nested → List Token
part_name part = option_map_or (λ name. name ∷ []) (pointer_name part)
    (option_to_list (last_name None part))

-- the names that a typedef defines whose tokens these are
abbrev pub typedef_names : List Token → List Token
typedef_names ts = flat_map part_name (parts ts)

-- the names of the typedef that token k begins: none where no `;` ends it before another begins
abbrev pub typedef_at : List Token → ℕ → List Token
typedef_at ts k =
    if begins_typedef ts k then
    option_map_or (λ j. if ends_declaration ts j then typedef_names (taken ts k j) else [])
    (typedef_stop ts (suc k)) []
    else []

-- the names that the typedefs of the code define, by place
abbrev pub typedefs : List Token → List Token
typedefs ts = flat_map (typedef_at ts) (range_with_len 0 (length ts))
