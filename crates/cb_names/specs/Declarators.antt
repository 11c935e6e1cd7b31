-- The names that declarations and lists of parameters declare, and the lists of parameters in them
-- (ISO C 2011, 6.7.6, found in tokens by this project's profile).
use Rattle.std.specs.Prelude.{ℕ, zero, suc, ◌+◌, Bool, true, false, ◌&&◌, ◌||◌, ◌==◌, ◌++◌}
use Rattle.std.specs.Prelude.{nat_lt, List, [], ◌∷◌, drop, find, length, map, not, take}
use Rattle.std.specs.Prelude.{if◌then◌else◌, Option, None, Some, slice_index_or, unwrap_or, ◌-◌}
use Rattle.std.specs.Option.{option_map_or}
use Rattle.cb_scan.specs.Bytes.{close_paren, colon, comma, equals, open_brace, open_paren, semicolon}
use Rattle.cb_scan.specs.Bytes.{star}
use Rattle.cb_scan.specs.CodeTokens.{first_attribute, lone_part}
use Rattle.cb_scan.specs.declared.rules.wide.token.WideToken.{WideToken}
use Rattle.cb_scan.specs.rules.Typedefs.{nesting_after}
use Rattle.cb_scan.specs.rules.wide.Declarations.{has_stray}
use Rattle.cb_scan.specs.rules.wide.Levels.{numbered}
use Rattle.cb_scan.specs.rules.wide.Names.{part_name}
use Rattle.cb_scan.specs.rules.wide.Prototypes.{prototype_name}
use Rattle.cb_scan.specs.rules.wide.Words.{is_extern_word}
use Rattle.cb_names.specs.Pairs.{at, closes, innermost, is_at, is_index, opens, partner}
use Rattle.cb_names.specs.declared.word.Item.{Item}
use Rattle.cb_names.specs.declared.word.Word.{Word}
use Rattle.cb_names.specs.declared.word.Word.TheVariants as word

-- ---- the tokens of a declaration

-- the index behind index k, or behind its pair
abbrev pub behind_pair : List Item → ℕ → ℕ
behind_pair xs k =
    if opens xs k then option_map_or (λ p. suc p) (partner xs k) (suc k) else suc k

-- a `;` or a bracket that closes
abbrev pub is_stop : List Item → ℕ → Bool
is_stop xs k = is_at semicolon xs k || closes xs k

-- the first of these from index k on, pairs left out; of at most `fuel` steps
unfoldable pub stop_from : List Item → (fuel : ℕ) → ℕ → ℕ
stop_from xs zero k = k
stop_from xs (suc fuel) k =
    if nat_lt k (length xs)
    then (if is_stop xs k then k else stop_from xs fuel (behind_pair xs k))
    else k

abbrev pub stop : List Item → ℕ → ℕ
stop xs k = stop_from xs (length xs) k

abbrev pub is_typeof : Word → Bool
is_typeof word.Typeof = true
is_typeof _ = false

abbrev pub begins_typeof : List Item → ℕ → Bool
begins_typeof xs k = is_typeof (at xs k).word && is_at open_paren xs (suc k)

-- how many tokens from index k on are of an attribute that begins there
abbrev pub attribute_at : List Item → ℕ → ℕ
attribute_at xs k = first_attribute (map (λ (x : Item). x.token) (drop k xs))

-- the last index of what stands for one token at index k: `typeof` with its parentheses, and a brace
-- with all up to its end
abbrev pub one_end : List Item → ℕ → Option ℕ
one_end xs k =
    if begins_typeof xs k then partner xs (suc k)
    else (if is_at open_brace xs k then Some (unwrap_or (partner xs k) (length xs - 1)) else None)

-- the index behind what stands for one token at index k, or behind an attribute
abbrev pub next_token : List Item → ℕ → ℕ
next_token xs k =
    option_map_or (λ p. suc p) (one_end xs k)
    (if attribute_at xs k == 0 then suc k else k + attribute_at xs k)

-- index k is not of an attribute
abbrev pub is_kept : List Item → ℕ → Bool
is_kept xs k = option_map_or (λ p. true) (one_end xs k) (attribute_at xs k == 0)

-- the index, if it is wanted
abbrev pub if_so : Bool → ℕ → List ℕ
if_so is k = if is then k ∷ [] else []

-- the indices from k up to an end without attributes; of at most `fuel` steps
unfoldable pub tokens_from : List Item → (end fuel : ℕ) → ℕ → List ℕ
tokens_from xs end zero k = []
tokens_from xs end (suc fuel) k =
    if nat_lt k end then if_so (is_kept xs k) k ++ tokens_from xs end fuel (next_token xs k) else []

abbrev pub tokens_between : List Item → (start end : ℕ) → List ℕ
tokens_between xs start end = tokens_from xs end end start

abbrev pub tokens_of : List Item → List ℕ → List WideToken
tokens_of xs ks = map (λ k. (at xs k).token) ks

-- ---- its parts

-- so many parentheses and brackets are open behind index k, where n are before it
abbrev pub open_behind : List Item → ℕ → ℕ → ℕ
open_behind xs n k = nesting_after (at xs k).token.token n

-- how many tokens there are before the first one outside parentheses and brackets that is one of two
-- bytes, where n are open
unfoldable pub outer_len : (a b : ℕ) → List Item → ℕ → List ℕ → ℕ
outer_len a b xs n [] = 0
outer_len a b xs n (k ∷ ks) =
    if n == 0 && (is_at a xs k || is_at b xs k) then 0
    else suc (outer_len a b xs (open_behind xs n k) ks)

-- how many there are before a comma; before a value
abbrev pub part_len : List Item → List ℕ → ℕ
part_len xs ks = outer_len comma comma xs 0 ks

abbrev pub unvalued_len : List Item → List ℕ → ℕ
unvalued_len xs ks = outer_len equals colon xs 0 ks

-- the index of a token of a part
abbrev pub is_token : List Item → WideToken → ℕ → Bool
is_token xs t k = (at xs k).token.token.span.start == t.token.span.start

abbrev pub place_in : List Item → List ℕ → Option WideToken → Option ℕ
place_in xs ks t = option_map_or (λ w. find (is_token xs w) ks) t None

-- the name of a part, and its name as a function
abbrev pub name_in : List Item → Bool → List ℕ → Option ℕ
name_in xs first ks = place_in xs ks (part_name (lone_part first (tokens_of xs ks)))

abbrev pub function_in : List Item → Bool → List ℕ → Option ℕ
function_in xs first ks = place_in xs ks (prototype_name (lone_part first (tokens_of xs ks)))

abbrev pub is_stray_part : List Item → List ℕ → Bool
is_stray_part xs ks = has_stray (numbered 0 (tokens_of xs ks))

-- ---- lists of parameters

-- the `)` of a pointer: of the first parenthesis outside others behind which a `*` stands, where n
-- are open
unfoldable pub pointer_end : List Item → ℕ → List ℕ → Option ℕ
pointer_end xs n [] = None
pointer_end xs n (k ∷ ks) =
    if n == 0 && is_at open_paren xs k && is_at star xs (slice_index_or ks 0 (length xs))
    then partner xs k
    else pointer_end xs (open_behind xs n k) ks

-- index k is one of two names
abbrev pub is_one_of : Option ℕ → Option ℕ → ℕ → Bool
is_one_of name function k = is_index k name || is_index k function

-- a list begins at index k, directly behind indices p and, before that, q: behind a name, a `)` that
-- directly follows one, or the `)` of a pointer
abbrev pub begins_list : List Item → (name function pointer : Option ℕ) → (q p k : ℕ) → Bool
begins_list xs name function pointer q p k =
    is_at open_paren xs k && option_map_or (λ c. true) (partner xs k) false
    && (is_one_of name function p || (is_at close_paren xs p && is_one_of name function q)
    || is_index p pointer)

-- the lists among these indices, before which p and q stand
unfoldable pub lists_behind : (ℕ → ℕ → ℕ → Bool) → (q p : ℕ) → List ℕ → List ℕ
lists_behind begins q p [] = []
lists_behind begins q p (k ∷ ks) =
    if_so (begins q p k) k ++ lists_behind begins p k ks

-- the lists of a part, before its value
abbrev pub lists_in : List Item → (name function : Option ℕ) → List ℕ → List ℕ
lists_in xs name function ks =
    let before = take (unvalued_len xs ks) ks in
    lists_behind (begins_list xs name function (pointer_end xs 0 before)) (length xs) (length xs)
    before

-- ---- what is declared

-- the names that are declared, and the lists of parameters among the tokens
pub record Finding : Type 0 where
  pub names : List ℕ
  pub lists : List ℕ

abbrev pub nothing : Finding
nothing = record { names = []; lists = [] }

abbrev pub both : Finding → Finding → Finding
both f g = record { names = f.names ++ g.names; lists = f.lists ++ g.lists }

abbrev pub some_of : Option ℕ → List ℕ
some_of o = option_map_or (λ k. k ∷ []) o []

-- a part: in a declaration one with the name of a function declares nothing
abbrev pub found_in_part : List Item → (of_list first : Bool) → List ℕ → Finding
found_in_part xs of_list first ks =
    let name = name_in xs first ks in
    let function = function_in xs first ks in
    record {
      names = if of_list then some_of name else option_map_or (λ f. []) function (some_of name);
      lists = lists_in xs name function ks;
    }

-- a part, unless it has a token of no declaration
abbrev pub found_unless_stray : List Item → (of_list first : Bool) → List ℕ → Finding
found_unless_stray xs of_list first ks =
    if is_stray_part xs ks then nothing else found_in_part xs of_list first ks

-- the parts of a declaration one after another, up to the first with such a token; of at most `fuel`
-- parts
unfoldable pub found_in_parts : List Item → (of_list : Bool) → (fuel : ℕ) → Bool → List ℕ → Finding
found_in_parts xs of_list zero first ks = nothing
found_in_parts xs of_list (suc fuel) first ks =
    let n = part_len xs ks in
    if is_stray_part xs (take n ks) then nothing
    else both (found_in_part xs of_list first (take n ks))
    (if nat_lt n (length ks) then found_in_parts xs of_list fuel false (drop (suc n) ks)
    else nothing)

-- `extern` stands outside parentheses and brackets, of which n are open
unfoldable pub is_external : List Item → ℕ → List ℕ → Bool
is_external xs n [] = false
is_external xs n (k ∷ ks) =
    (n == 0 && is_extern_word (at xs k).token.role) || is_external xs (open_behind xs n k) ks

-- the declaration that begins at index i: an external one declares nothing in a block
abbrev pub found_in_declaration : List Item → (of_list : Bool) → ℕ → Finding
found_in_declaration xs of_list i =
    let ks = tokens_between xs i (stop xs i) in
    let f = found_in_parts xs of_list (suc (length ks)) true ks in
    record {
      names = if not of_list && is_external xs 0 ks then [] else f.names;
      lists = f.lists;
    }

-- a parameter, from an index up to an end: it is the first part there
abbrev pub found_in_parameter : List Item → (start end : ℕ) → Finding
found_in_parameter xs start end =
    let ks = tokens_between xs start end in
    found_unless_stray xs true true (take (part_len xs ks) ks)

-- the `,` of the list at index j that is the first from index k on, or the end; of at most `fuel`
-- steps
unfoldable pub comma_from : List Item → ℕ → (end fuel : ℕ) → ℕ → ℕ
comma_from xs j end zero k = end
comma_from xs j end (suc fuel) k =
    if nat_lt k end
    then (if is_at comma xs k && is_index j (innermost xs k) then k
    else comma_from xs j end fuel (suc k))
    else end

-- the parameters of the list at index j from an index on; of at most `fuel` parameters
unfoldable pub found_in_parameters : List Item → ℕ → (end fuel : ℕ) → ℕ → Finding
found_in_parameters xs j end zero k = nothing
found_in_parameters xs j end (suc fuel) k =
    let c = comma_from xs j end end k in
    both (found_in_parameter xs k c)
    (if nat_lt c end then found_in_parameters xs j end fuel (suc c) else nothing)

abbrev pub found_in_list : List Item → ℕ → Finding
found_in_list xs j =
    option_map_or (λ end. found_in_parameters xs j end (suc end) (suc j)) (partner xs j) nothing
