-- The name of a part of a declaration, its value left out (ISO C 2011, 6.7.6, found in tokens by
-- this project's profile).
use Rattle.std.specs.Prelude.{ℕ, zero, suc, ◌-◌, Bool, false, ◌&&◌, ◌||◌, nat_le, not}
use Rattle.std.specs.Prelude.{List, [], ◌∷◌, length, take, drop, reverse, filter, Option, None}
use Rattle.std.specs.Prelude.{Some, slice_get, if◌then◌else◌}
use Rattle.std.specs.List.{list_any, range_with_len, take_while}
use Rattle.std.specs.Option.{option_map, option_map_or, option_or}
use Rattle.cb_scan.specs.declared.rules.wide.called.CalledName.{CalledName}
use Rattle.cb_scan.specs.declared.rules.wide.token.WideToken.{WideToken}
use Rattle.cb_scan.specs.rules.wide.Declarations.{Part, before_value}
use Rattle.cb_scan.specs.rules.wide.Levels.{Numbered, is_byte, is_outer, is_outer_byte}
use Rattle.cb_scan.specs.rules.wide.Levels.{numbered_at}
use Rattle.cb_scan.specs.rules.wide.Words.{is_keyword, is_specifier, is_text, is_underscored}
use Rattle.cb_scan.specs.rules.wide.Words.{is_wide_name, is_wide_word}
use Rattle.cb_scan.specs.Bytes.{close_bracket, close_paren, open_paren, star}

-- the first token
abbrev pub first_of : List Numbered → Option WideToken
first_of [] = None
first_of (x ∷ xs) = Some x.item

-- a name; a word, reserved or not
abbrev pub names : Numbered → Bool
names x = is_wide_name x.item.role

abbrev pub is_word : Numbered → Bool
is_word x = is_wide_word x.item.role

-- the first token is the lone byte b
abbrev pub begins_with : ℕ → List Numbered → Bool
begins_with b [] = false
begins_with b (x ∷ xs) = is_byte b x

-- the first token is a word
abbrev pub begins_with_word : List Numbered → Bool
begins_with_word [] = false
begins_with_word (x ∷ xs) = is_word x

-- ---- a name that is called: two words or stars and more in parentheses, and `(` after them

-- the list begins with `)` and `(`
abbrev pub closes_and_opens : List Numbered → Bool
closes_and_opens [] = false
closes_and_opens (x ∷ xs) = is_byte close_paren x && begins_with open_paren xs

-- the words and stars at the beginning
abbrev pub words_and_stars : List Numbered → List Numbered
words_and_stars xs = take_while (λ x. is_word x || is_byte star x) xs

-- the last token
unfoldable pub last_of : List Numbered → Option WideToken
last_of [] = None
last_of (x ∷ []) = Some x.item
last_of (x ∷ y ∷ xs) = last_of (y ∷ xs)

-- the last of these, if it is a name
abbrev pub last_name : List Numbered → Option CalledName
last_name words =
    option_map_or (λ x. if is_wide_name x.role
    then Some (record { name = x; starred = list_any (is_byte star) words })
    else None)
    (last_of words) None

-- the name that is called in the parentheses whose `(` is directly before
abbrev pub called_inside : List Numbered → Option CalledName
called_inside xs =
    let words = words_and_stars xs in
    if nat_le 2 (length words) && closes_and_opens (drop (length words) xs) then last_name words
    else None

-- the first called name
unfoldable pub called_name : List Numbered → Option CalledName
called_name [] = None
called_name (x ∷ xs) =
    option_or (if is_outer_byte open_paren x then called_inside xs else None) (called_name xs)

-- ---- a pointer

-- the tokens after the first `(` outside parentheses and brackets that `*` directly follows
unfoldable pub after_pointer : List Numbered → Option (List Numbered)
after_pointer [] = None
after_pointer (x ∷ xs) =
    if is_outer_byte open_paren x && begins_with star xs then Some xs else after_pointer xs

-- the tokens from the first name on that no word directly follows
unfoldable pub from_free_name : List Numbered → List Numbered
from_free_name [] = []
from_free_name (x ∷ xs) =
    if names x && not (begins_with_word xs) then x ∷ xs else from_free_name xs

-- ---- the tail

-- a token is before index k, and passes the test
abbrev pub follows : (Numbered → Bool) → List Numbered → ℕ → Bool
follows test xs zero = false
follows test xs (suc k) = test (numbered_at xs k)

-- the token after index k is the lone byte b
abbrev pub precedes : ℕ → List Numbered → ℕ → Bool
precedes b xs k = begins_with b (drop (suc k) xs)

-- a brace, or a `*` outside parentheses and brackets: what stands after the last of them is the
-- tail
abbrev pub parts_tail : Numbered → Bool
parts_tail x = x.item.counted || is_outer_byte star x

-- where the tail begins before index k: after the last such token, or at the beginning
unfoldable pub tail_begin : List Numbered → ℕ → ℕ
tail_begin xs zero = 0
tail_begin xs (suc k) = if parts_tail (numbered_at xs k) then suc k else tail_begin xs k

-- the indices in the tail of the first n tokens
abbrev pub tail_of : List Numbered → ℕ → List ℕ
tail_of xs n = range_with_len (tail_begin xs n) (n - tail_begin xs n)

-- the indices in the tail
abbrev pub tail : List Numbered → List ℕ
tail xs = tail_of xs (length xs)

-- a type is before index k: the part is not the first, or a token is before it that is neither a
-- specifier nor a string
abbrev pub is_typed : Bool → List Numbered → ℕ → Bool
is_typed first xs k =
    not first || list_any (λ x. not (is_specifier x.item.role || is_text x.item.role)) (take k xs)

-- the token after which no candidate stands
abbrev pub bars_candidate : Numbered → Bool
bars_candidate x = is_keyword x.item.role || is_byte close_bracket x

-- a candidate: a typed name outside parentheses and brackets that is not called, and neither a tag
-- nor behind `]`
abbrev pub is_candidate : Bool → List Numbered → ℕ → Bool
is_candidate first xs k =
    is_outer (numbered_at xs k) && names (numbered_at xs k) && is_typed first xs k
    && not (precedes open_paren xs k) && not (follows bars_candidate xs k)

-- a trailing word: a name with two underscores outside parentheses and brackets, after a brace,
-- another trailing word, or a candidate without underscores
unfoldable pub is_trailing : Bool → List Numbered → ℕ → Bool
is_trailing first xs zero = false
is_trailing first xs (suc k) =
    is_outer (numbered_at xs (suc k)) && is_underscored (numbered_at xs (suc k)).item.role
    && ((numbered_at xs k).item.counted || is_trailing first xs k
    || (is_candidate first xs k && not (is_underscored (numbered_at xs k).item.role)))

-- the last of some indices
abbrev pub last_index : List ℕ → Option ℕ
last_index ks = slice_get (reverse ks) 0

-- the last candidate of the tail that is no trailing word
abbrev pub tail_name : Bool → List Numbered → Option WideToken
tail_name first xs =
    option_map (λ k. (numbered_at xs k).item)
    (last_index (filter (λ k. is_candidate first xs k && not (is_trailing first xs k)) (tail xs)))

-- ---- the name

-- the name where none is called: that of a pointer, and without one that of the tail
abbrev pub uncalled_name : Bool → List Numbered → Option WideToken
uncalled_name first xs =
    option_map_or (λ rest. first_of (from_free_name rest)) (after_pointer xs)
    (tail_name first xs)

-- the name of a part
abbrev pub part_name : Part → Option WideToken
part_name p =
    option_map_or (λ called. Some called.name) (called_name (before_value p.tokens))
    (uncalled_name p.first (before_value p.tokens))
