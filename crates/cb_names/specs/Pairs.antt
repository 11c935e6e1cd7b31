-- Which brackets are open before a token, and which of them pair. This is the project's profile.
use Rattle.std.specs.Prelude.{ℕ, zero, suc, Bool, false, ◌&&◌, ◌||◌, ◌==◌, List, [], ◌∷◌, length}
use Rattle.std.specs.Prelude.{if◌then◌else◌, Option, None, Some, slice_get, slice_index_or}
use Rattle.std.specs.Option.{option_map_or, option_or}
use Rattle.cb_scan.specs.Bytes.{close_brace, close_bracket, close_paren, open_brace, open_bracket}
use Rattle.cb_scan.specs.Bytes.{open_paren}
use Rattle.cb_scan.specs.declared.rules.wide.role.WideRole.{WideRole}
use Rattle.cb_scan.specs.declared.rules.wide.role.WideRole.TheVariants as wide
use Rattle.cb_scan.specs.rules.wide.Levels.{no_wide_token}
use Rattle.cb_names.specs.declared.word.Item.{Item}
use Rattle.cb_names.specs.declared.word.Word.TheVariants as word

-- ---- tokens

-- the item where there is none
abbrev pub no_item : Item
no_item = record { token = no_wide_token; word = word.Other }

-- the item at index k
abbrev pub at : List Item → ℕ → Item
at xs k = slice_index_or xs k no_item

-- the lone byte that a token is, or 0
abbrev pub byte_of : WideRole → ℕ
byte_of (wide.Mark b) = b
byte_of _ = 0

-- the lone byte at index k, or 0; it is b
abbrev pub sign : List Item → ℕ → ℕ
sign xs k = byte_of (at xs k).token.role

abbrev pub is_at : ℕ → List Item → ℕ → Bool
is_at b xs k = sign xs k == b

-- the byte is a bracket that opens; one that closes
abbrev pub is_opening : ℕ → Bool
is_opening b = b == open_paren || b == open_bracket || b == open_brace

abbrev pub is_closing : ℕ → Bool
is_closing b = b == close_paren || b == close_bracket || b == close_brace

abbrev pub opens : List Item → ℕ → Bool
opens xs k = is_opening (sign xs k)

abbrev pub closes : List Item → ℕ → Bool
closes xs k = is_closing (sign xs k)

-- a `}` that begins its line: it ends all that is open
abbrev pub ends_all : List Item → ℕ → Bool
ends_all xs k = is_at close_brace xs k && (at xs k).token.token.starts_line

-- ---- what is open

-- of brackets that are open, the innermost first, the nearest that is the lone byte b, unless a `{`
-- is nearer
unfoldable pub nearest : ℕ → List Item → List ℕ → Option ℕ
nearest b xs [] = None
nearest b xs (j ∷ around) =
    if is_at b xs j then Some j
    else (if is_at open_brace xs j then None else nearest b xs around)

-- the innermost `{` of them; the outermost one
unfoldable pub nearest_brace : List Item → List ℕ → Option ℕ
nearest_brace xs [] = None
nearest_brace xs (j ∷ around) = if is_at open_brace xs j then Some j else nearest_brace xs around

unfoldable pub lowest_brace : List Item → List ℕ → Option ℕ
lowest_brace xs [] = None
lowest_brace xs (j ∷ around) =
    option_or (lowest_brace xs around) (if is_at open_brace xs j then Some j else None)

-- of brackets that are open, the one that index k closes, if it closes one
abbrev pub closed_of : List Item → ℕ → List ℕ → Option ℕ
closed_of xs k around =
    if is_at close_paren xs k then nearest open_paren xs around
    else (if is_at close_bracket xs k then nearest open_bracket xs around
    else (if ends_all xs k then lowest_brace xs around
    else (if is_at close_brace xs k then nearest_brace xs around
    else None)))

-- the brackets behind one of them
unfoldable pub beyond : ℕ → List ℕ → List ℕ
beyond j [] = []
beyond j (i ∷ around) = if i == j then around else beyond j around

-- what is open after index k, where these are open before it: a bracket that closes another takes
-- it and all that is open inside it away
abbrev pub open_after : List Item → ℕ → List ℕ → List ℕ
open_after xs k around =
    if opens xs k then k ∷ around
    else (if ends_all xs k then []
    else option_map_or (λ j. beyond j around) (closed_of xs k around) around)

-- the brackets that are open before index k, the innermost first
unfoldable pub opened : List Item → ℕ → List ℕ
opened xs zero = []
opened xs (suc k) = open_after xs k (opened xs k)

-- the innermost of them
abbrev pub innermost : List Item → ℕ → Option ℕ
innermost xs k = slice_get (opened xs k) 0

-- ---- pairs

-- the bracket that index k closes
abbrev pub closed_at : List Item → ℕ → Option ℕ
closed_at xs k = closed_of xs k (opened xs k)

-- it is index j
abbrev pub is_index : ℕ → Option ℕ → Bool
is_index j o = option_map_or (λ i. i == j) o false

-- the last of the first n tokens that closes the bracket at index j
unfoldable pub closer_among : List Item → ℕ → ℕ → Option ℕ
closer_among xs zero j = None
closer_among xs (suc k) j = if is_index j (closed_at xs k) then Some k else closer_among xs k j

-- the bracket with which the one at index i pairs: the one that it closes, or that closes it
abbrev pub partner_among : List Item → ℕ → ℕ → Option ℕ
partner_among xs n i = option_or (closed_at xs i) (closer_among xs n i)

abbrev pub partner : List Item → ℕ → Option ℕ
partner xs i = partner_among xs (length xs) i
