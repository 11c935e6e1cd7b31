-- What a `{` in the body of a function opens: the body of a structure, union or enumeration, a
-- value, or a block (ISO C 2011, 6.7.2, 6.7.9 and 6.8.2, found in tokens by this project's profile).
-- The body of the function begins at index b.
use Rattle.std.specs.Prelude.{ℕ, zero, suc, Bool, true, false, ◌&&◌, ◌||◌, ◌==◌, not, List, [], ◌∷◌}
use Rattle.std.specs.Prelude.{if◌then◌else◌}
use Rattle.std.specs.Option.{option_map_or}
use Rattle.cb_scan.specs.Bytes.{close_bracket, close_paren, comma, equals, open_brace}
use Rattle.cb_scan.specs.rules.wide.Words.{is_keyword, is_wide_name}
use Rattle.cb_names.specs.Pairs.{at, is_at, opened, partner}
use Rattle.cb_names.specs.declared.braces.Brace.{Brace}
use Rattle.cb_names.specs.declared.braces.Brace.TheVariants.{Other, Body, Value, Block}
use Rattle.cb_names.specs.declared.word.Item.{Item}
use Rattle.cb_names.specs.declared.word.Word.{Word}
use Rattle.cb_names.specs.declared.word.Word.TheVariants as word

-- a name; `struct`, `union` or `enum`
abbrev pub is_name_at : List Item → ℕ → Bool
is_name_at xs k = is_wide_name (at xs k).token.role

abbrev pub is_keyword_at : List Item → ℕ → Bool
is_keyword_at xs k = is_keyword (at xs k).token.role

-- a word whose parentheses hold no type
abbrev pub takes_parentheses : Word → Bool
takes_parentheses word.For = true
takes_parentheses word.Control = true
takes_parentheses _ = false

-- one of the three words is directly before index k, or directly before the names there
unfoldable pub follows_keyword : List Item → ℕ → Bool
follows_keyword xs zero = false
follows_keyword xs (suc k) =
    is_keyword_at xs k || (is_name_at xs k && follows_keyword xs k)

-- a name, or such a word, is directly before index k
unfoldable pub follows_head : List Item → ℕ → Bool
follows_head xs zero = false
follows_head xs (suc k) = is_name_at xs k || takes_parentheses (at xs k).word

-- a value begins at index k by what is directly before it: `=`, `]`, or the `)` of a type
unfoldable pub begins_value : List Item → ℕ → Bool
begins_value xs zero = false
begins_value xs (suc k) =
    is_at equals xs k || is_at close_bracket xs k
    || (is_at close_paren xs k
    && option_map_or (λ p. not (follows_head xs p)) (partner xs k) false)

-- a comma or `{` is directly before index k
unfoldable pub follows_separator : List Item → ℕ → Bool
follows_separator xs zero = false
follows_separator xs (suc k) = is_at comma xs k || is_at open_brace xs k

-- a value; a block
abbrev pub is_value : Brace → Bool
is_value Value = true
is_value _ = false

abbrev pub is_block : Brace → Bool
is_block Block = true
is_block _ = false

-- what the `{` at index k opens, which may be directly inside a value
abbrev pub kind_by : List Item → ℕ → ℕ → Bool → Brace
kind_by xs b k inside =
    if k == b then Block
    else (if follows_keyword xs k then Body
    else (if begins_value xs k || (inside && follows_separator xs k) then Value
    else Block))

-- what the `{` at index k opens, around which these brackets are open, the innermost first
unfoldable pub kind_in : List Item → ℕ → ℕ → List ℕ → Brace
kind_in xs b k [] = kind_by xs b k false
kind_in xs b k (j ∷ around) =
    kind_by xs b k (is_at open_brace xs j && is_value (kind_in xs b j around))

-- what index k opens, if it is a `{`
abbrev pub kind_at : List Item → ℕ → ℕ → Brace
kind_at xs b k = if is_at open_brace xs k then kind_in xs b k (opened xs k) else Other
