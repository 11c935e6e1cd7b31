-- Where declarations begin and end on the level of the file and in the bodies of structures and
-- unions, and their parts (ISO C 2011, 6.7 and 6.7.2.1, found in tokens by this project's profile).
-- Attributes are left out.
use Rattle.std.specs.Prelude.{ℕ, zero, suc, ◌+◌, ◌-◌, Bool, ◌&&◌, ◌||◌, ◌==◌, not, List, [], ◌∷◌}
use Rattle.std.specs.Prelude.{length, take, drop, if◌then◌else◌, find, slice_index_or, unwrap_or}
use Rattle.std.specs.List.{flat_map, list_any, range_with_len, slice_split, take_while}
use Rattle.cb_scan.specs.declared.rules.wide.token.WideToken.{WideToken}
use Rattle.cb_scan.specs.rules.wide.Bodies.{Body, opens_body}
use Rattle.cb_scan.specs.rules.wide.Levels.{Numbered, is_byte, is_outer, is_outer_byte}
use Rattle.cb_scan.specs.rules.wide.Levels.{numbered, numbered_at}
use Rattle.cb_scan.specs.rules.wide.Words.{is_extern_word, is_statement_word, is_static_word}
use Rattle.cb_scan.specs.rules.wide.Words.{is_text, is_typedef_word, is_wide_word}
use Rattle.cb_scan.specs.Bytes.{close_brace, close_bracket, close_paren, colon, comma, equals}
use Rattle.cb_scan.specs.Bytes.{open_brace, open_bracket, open_paren, semicolon, star}

-- ---- where they end

-- the first n tokens end in a declaration's `;`
abbrev pub ends_at_semicolon : List Numbered → ℕ → Bool
ends_at_semicolon ds n = is_byte semicolon (numbered_at ds (n - 1))

-- an `=` outside parentheses and brackets is among the first n tokens
abbrev pub has_outer_equals : List Numbered → ℕ → Bool
has_outer_equals ds n = list_any (is_outer_byte equals) (take n ds)

-- a `{` that does not count
abbrev pub is_linkage : Numbered → Bool
is_linkage x = is_byte open_brace x && not x.item.counted

-- a brace that is no body of a structure, union or enumeration
abbrev pub is_block : List Body → Numbered → Bool
is_block bs x = x.item.counted && not (opens_body bs x.item.token.span.start)

-- a `}`, or the body of a function: a declaration ends with it, unless it has a value
abbrev pub is_end_without_value : List Body → Numbered → Bool
is_end_without_value bs x = is_byte close_brace x || is_block bs x

-- `static` or `extern` outside parentheses and brackets, after `)` or a brace: a `;` is missing
-- before it
abbrev pub begins_anew : Numbered → Numbered → Bool
begins_anew before x =
    is_outer x && (is_static_word x.item.role || is_extern_word x.item.role)
    && (is_byte close_paren before || before.item.counted)

-- the first n tokens are a declaration of the file
abbrev pub ends_in_file : List Body → List Numbered → ℕ → Bool
ends_in_file bs ds n =
    ends_at_semicolon ds n || is_linkage (numbered_at ds (n - 1))
    || (not (has_outer_equals ds n) && is_end_without_value bs (numbered_at ds (n - 1)))
    || begins_anew (numbered_at ds (n - 1)) (numbered_at ds n)

-- how many tokens the first declaration takes: as few as end one, or all
abbrev pub declaration_len : (List Numbered → ℕ → Bool) → List Numbered → ℕ
declaration_len ends ds = unwrap_or (find (ends ds) (range_with_len 1 (length ds))) (length ds)

-- the declarations of some tokens, one after the other, each with its tokens numbered anew; there
-- are at most as many as `fuel`
unfoldable pub declarations_from : (List Numbered → ℕ → Bool) → ℕ → List WideToken
    → List (List Numbered)
declarations_from ends zero xs = []
declarations_from ends (suc fuel) [] = []
declarations_from ends (suc fuel) (x ∷ xs) =
    let ds = numbered 0 (x ∷ xs) in
    let n = declaration_len ends ds in
    take n ds ∷ declarations_from ends fuel (drop n (x ∷ xs))

-- the declarations of the level of the file
abbrev pub file_declarations : List Body → List WideToken → List (List Numbered)
file_declarations bs level = declarations_from (ends_in_file bs) (length level) level

-- the declarations of the level of a structure or union
abbrev pub body_declarations : List WideToken → List (List Numbered)
body_declarations level = declarations_from ends_at_semicolon (length level) level

-- ---- their parts

-- a comma outside parentheses and brackets, or a `;`
abbrev pub ends_part : Numbered → Bool
ends_part x = is_outer_byte comma x || is_byte semicolon x

-- all but the last
abbrev pub but_last : {X : Type 0} → List X → List X
but_last xs = take (length xs - 1) xs

-- the parts of a declaration that a comma or `;` ends
abbrev pub ended_parts : List Numbered → List (List Numbered)
ended_parts ds = but_last (slice_split ends_part ds)

-- the `=` or `:` with which a value begins
abbrev pub begins_value : Numbered → Bool
begins_value x = is_outer_byte equals x || is_outer_byte colon x

-- a part has a value
abbrev pub has_value : List Numbered → Bool
has_value part = list_any begins_value part

-- a part without its value
abbrev pub before_value : List Numbered → List Numbered
before_value part = take_while (λ x. not (begins_value x)) part

-- a word, a string, a brace, `*`, or one of the parentheses and brackets
abbrev pub may_declare : Numbered → Bool
may_declare x =
    is_wide_word x.item.role || is_text x.item.role || x.item.counted || is_byte star x
    || is_byte open_paren x || is_byte close_paren x || is_byte open_bracket x
    || is_byte close_bracket x

-- a token that no declaration has outside parentheses and brackets
abbrev pub is_stray : Numbered → Bool
is_stray x = is_outer x && (is_statement_word x.item.role || not (may_declare x))

-- a part has such a token before its value
abbrev pub has_stray : List Numbered → Bool
has_stray part = list_any is_stray (before_value part)

-- one part of a declaration: whether it is the first, its tokens, and all tokens of the parts up to
-- and with it
pub record Part : Type 0 where
  pub first : Bool
  pub tokens : List Numbered
  pub passed : List Numbered

-- the last of some parts, with what stands before it, unless a stray token is in one of them
abbrev pub part_after : Bool → List (List Numbered) → List Numbered → List Part
part_after first parts part =
    if list_any has_stray parts then []
    else record { first = first; tokens = part; passed = flat_map (λ p. p) parts } ∷ []

-- part i of a declaration, if it can name something
abbrev pub part_at : List (List Numbered) → ℕ → List Part
part_at parts i = part_after (i == 0) (take (i + 1) parts) (slice_index_or parts i [])

-- the parts of a declaration that can name something
abbrev pub naming_parts : List Numbered → List Part
naming_parts ds =
    flat_map (part_at (ended_parts ds)) (range_with_len 0 (length (ended_parts ds)))

-- up to the end of the part the declaration has `typedef`, `static` or `extern` outside parentheses
-- and brackets
abbrev pub defines_type : Part → Bool
defines_type p = list_any (λ x. is_outer x && is_typedef_word x.item.role) p.passed

abbrev pub is_static_part : Part → Bool
is_static_part p = list_any (λ x. is_outer x && is_static_word x.item.role) p.passed

abbrev pub is_extern_part : Part → Bool
is_extern_part p = list_any (λ x. is_outer x && is_extern_word x.item.role) p.passed
