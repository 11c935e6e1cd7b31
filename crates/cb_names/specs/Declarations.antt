-- Which statements of a block are declarations (ISO C 2011, 6.7, found in tokens by this project's
-- profile).
use Rattle.std.specs.Prelude.{ℕ, ◌+◌, ◌-◌, Bool, true, false, ◌&&◌, ◌||◌, ◌==◌, not, nat_le, List}
use Rattle.std.specs.Prelude.{Option, drop, filter, length}
use Rattle.std.specs.List.{list_any, take_while}
use Rattle.std.specs.Option.{option_map, option_map_or}
use Rattle.cb_scan.specs.Bytes.{close_paren, comma, equals, open_bracket, open_paren, semicolon, star}
use Rattle.cb_scan.specs.rules.wide.Words.{is_sign, is_specifier, is_statement_word, is_wide_name}
use Rattle.cb_scan.specs.rules.wide.Words.{is_wide_word}
use Rattle.cb_names.specs.Braces.{is_keyword_at, is_name_at}
use Rattle.cb_names.specs.Pairs.{at, is_at, partner, sign}
use Rattle.cb_names.specs.declared.word.Item.{Item}
use Rattle.cb_names.specs.declared.word.Word.{Word}
use Rattle.cb_names.specs.declared.word.Word.TheVariants as word

-- ---- tokens

-- a word of a type, in any spelling of `typeof` too
abbrev pub is_type : Word → Bool
is_type word.Type = true
is_type word.Typeof = true
is_type _ = false

-- a word, reserved or not
abbrev pub is_word_at : List Item → ℕ → Bool
is_word_at xs k = is_wide_word (at xs k).token.role

-- a word with which only a declaration begins
abbrev pub begins_type : List Item → ℕ → Bool
begins_type xs k =
    is_type (at xs k).word || is_keyword_at xs k || is_specifier (at xs k).token.role

-- a word or a `*`; a `*`; a name; a word of a statement
abbrev pub is_piece : Item → Bool
is_piece x = is_wide_word x.token.role || is_sign star x.token.role

abbrev pub is_star : Item → Bool
is_star x = is_sign star x.token.role

abbrev pub is_name_item : Item → Bool
is_name_item x = is_wide_name x.token.role

abbrev pub is_word_item : Item → Bool
is_word_item x = is_wide_word x.token.role

abbrev pub is_stray_word : Item → Bool
is_stray_word x = is_statement_word x.token.role

-- what may follow a declared name; what may follow the parameters behind one
abbrev pub is_follower : ℕ → Bool
is_follower b =
    b == semicolon || b == equals || b == comma || b == open_bracket || b == close_paren

abbrev pub is_separator : ℕ → Bool
is_separator b = b == semicolon || b == equals || b == comma

-- ---- a type and a name behind it

-- the index behind the partner of a bracket, if it has one
abbrev pub behind : List Item → ℕ → Option ℕ
behind xs k = option_map (λ c. c + 1) (partner xs k)

-- behind the parentheses at index k stands what may follow parameters
abbrev pub declares_after : List Item → ℕ → Bool
declares_after xs k =
    option_map_or (λ j. is_separator (sign xs j) || is_word_at xs j) (behind xs k) false

-- the words and stars from index k on
abbrev pub run : List Item → ℕ → List Item
run xs k = take_while is_piece (drop k xs)

-- words and stars that end before index k, with a `*` among them or not, end in a declared name: a
-- name and what may follow one; or a `*`, and a pointer in parentheses
abbrev pub ends_declared : List Item → Bool → ℕ → Bool
ends_declared xs starred k =
    (is_name_at xs (k - 1)
    && (is_follower (sign xs k) || (is_at open_paren xs k && (starred || declares_after xs k))))
    || (is_at star xs (k - 1) && is_at open_paren xs k && is_at star xs (k + 1))

-- the words and stars from index k on are the rest of a declaration's first name
abbrev pub names_from : List Item → ℕ → Bool
names_from xs k =
    let words = run xs k in
    nat_le 1 (length words) && not (list_any is_stray_word words)
    && ends_declared xs (list_any is_star words) (k + length words)

-- ---- the four forms

-- a name as type
abbrev pub is_named : List Item → ℕ → Bool
is_named xs i = is_name_at xs i && names_from xs (i + 1)

-- a name as type, and in parentheses a pointer that is called
abbrev pub stars : List Item → ℕ → ℕ
stars xs k = length (take_while is_star (drop k xs))

abbrev pub words : List Item → ℕ → ℕ
words xs k = length (take_while is_word_item (drop k xs))

abbrev pub calls_pointer : List Item → ℕ → ℕ → Bool
calls_pointer xs k n =
    nat_le 1 n && is_name_at xs (k + n - 1) && is_at close_paren xs (k + n)
    && is_at open_paren xs (k + n + 1)

abbrev pub is_pointer : List Item → ℕ → Bool
is_pointer xs i =
    is_name_at xs i && is_at open_paren xs (i + 1) && nat_le 1 (stars xs (i + 2))
    && calls_pointer xs (i + 2 + stars xs (i + 2)) (words xs (i + 2 + stars xs (i + 2)))

-- at least one `*` or two names
abbrev pub is_typed : List Item → Bool
is_typed words = list_any is_star words || nat_le 2 (length (filter is_name_item words))

-- a name and parentheses as type
abbrev pub is_called : List Item → ℕ → Bool
is_called xs i =
    is_name_at xs i && is_at open_paren xs (i + 1)
    && option_map_or (λ j. begins_type xs j || (names_from xs j && is_typed (run xs j)))
    (behind xs (i + 1)) false

-- the statement that begins at index i is a declaration
abbrev pub is_declaration : List Item → ℕ → Bool
is_declaration xs i = begins_type xs i || is_named xs i || is_pointer xs i || is_called xs i
