-- The function around a place: from the first token of its head to the end of its body, without the
-- attributes that are left out everywhere. This is the project's profile.
use Rattle.std.specs.Prelude.{◌≡◌, ◌<◌, ◌^◌, length, ℕ, zero, suc, Bool, ◌&&◌, ◌||◌, nat_le, nat_lt, not, List, drop, find, map, take}
use Rattle.std.specs.Prelude.{if◌then◌else◌, Option}
use Rattle.std.specs.List.{AllByRecursion, prefix_len}
use Rattle.cb_scan.specs.Bytes.{close_brace, open_brace, semicolon}
use Rattle.cb_scan.specs.CodeTokens.{IsTokenOf, code_of}
use Rattle.cb_scan.specs.Profiles.{ranges_in}
use Rattle.cb_scan.specs.declared.profile.Rules.TheVariants.{Wide}
use Rattle.cb_scan.specs.declared.rules.scope.Range.{Range}
use Rattle.cb_names.specs.HardAttributes.{without_hard}
use Rattle.cb_names.specs.Pairs.{is_at}
use Rattle.cb_names.specs.Words.{item_of}
use Rattle.cb_names.specs.declared.word.Item.{Item}

-- the items of the code of a text
abbrev pub items : List ℕ → List Item
items text = map (item_of text) (code_of text)

-- the functions and the items of a text
pub record IsCodeOf (text : List ℕ) (rs : List Range) (xs : List Item) : Type 0 where
  pub ranges : rs ≡ ranges_in Wide text
  pub items : xs ≡ items text
  pub within : AllByRecursion (IsTokenOf text) (code_of text)
  pub few : length xs < 2 ^ 32

-- the token of an item lies in a text
abbrev pub IsItemOf : List ℕ → Item → Type 0
IsItemOf text x = IsTokenOf text x.token

-- the place where an item begins; it is before a place
abbrev pub start : Item → ℕ
start x = x.token.token.span.start

abbrev pub is_before : ℕ → Item → Bool
is_before place x = nat_lt (start x) place

-- how many items begin before a place
abbrev pub before : ℕ → List Item → ℕ
before place xs = prefix_len (is_before place) xs

-- a head begins behind index k: a `;` or a brace
abbrev pub ends_head : List Item → ℕ → Bool
ends_head xs k = is_at semicolon xs k || is_at open_brace xs k || is_at close_brace xs k

-- the index behind the last of these before index k, or 0
unfoldable pub head_before : List Item → ℕ → ℕ
head_before xs zero = 0
head_before xs (suc k) = if ends_head xs k then suc k else head_before xs k

-- the items of a function: from the first of its head to the end of its body
abbrev pub extent : List Item → Range → List Item
extent xs r = drop (head_before xs (before r.name.start xs)) (take (before r.end xs) xs)

-- the items of a function without the attributes that are left out everywhere
abbrev pub own_items : List Item → Range → List Item
own_items xs r = without_hard (extent xs r)

-- a `{` that counts, behind a place
abbrev pub opens_behind : ℕ → Item → Bool
opens_behind place x = x.token.counted && nat_lt place (start x)

-- the index of the `{` of its body: the first that counts behind its name
abbrev pub body_of : List Item → Range → ℕ
body_of xs r = prefix_len (λ x. not (opens_behind r.name.start x)) xs

-- the function that ends first at a place or behind it: a name that ends at its end is in it
abbrev pub function_at : List ℕ → ℕ → Option Range
function_at text place = find (λ (r : Range). nat_le place r.end) (ranges_in Wide text)
