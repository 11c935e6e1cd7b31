-- Which names of a function are ordinary: neither members nor tags nor labels (ISO C 2011, 6.2.3,
-- found in tokens by this project's profile). The body of the function begins at index b.
use Rattle.std.specs.Prelude.{ℕ, zero, suc, ◌+◌, Bool, false, ◌&&◌, ◌||◌, ◌==◌, not, List, drop}
use Rattle.std.specs.Prelude.{length, if◌then◌else◌}
use Rattle.std.specs.List.{take_while}
use Rattle.cb_scan.specs.Bytes.{open_brace}
use Rattle.cb_names.specs.Braces.{follows_keyword, is_keyword_at, is_name_at}
use Rattle.cb_names.specs.Declarations.{is_name_item}
use Rattle.cb_names.specs.Labels.{names_label}
use Rattle.cb_names.specs.Pairs.{at, is_at}
use Rattle.cb_names.specs.declared.word.Item.{Item}

-- `.`, `-`, `>`
abbrev pub dot : ℕ
dot = 46

abbrev pub minus : ℕ
minus = 45

abbrev pub greater : ℕ
greater = 62

-- no byte stands between index k and the next one
abbrev pub touches : List Item → ℕ → Bool
touches xs k = (at xs k).token.token.span.end == (at xs (suc k)).token.token.span.start

-- index k is a `.` that touches no `.` before it
unfoldable pub is_dot : List Item → ℕ → Bool
is_dot xs zero = is_at dot xs 0
is_dot xs (suc k) = is_at dot xs (suc k) && not (is_at dot xs k && touches xs k)

-- index k ends in `->`
unfoldable pub is_arrow : List Item → ℕ → Bool
is_arrow xs zero = false
is_arrow xs (suc k) = is_at greater xs (suc k) && is_at minus xs k && touches xs k

-- `.` or `->` begins at index k
abbrev pub begins_accessor : List Item → ℕ → Bool
begins_accessor xs k =
    (is_at dot xs k && not (is_at dot xs (suc k) && touches xs k))
    || (is_at minus xs k && is_at greater xs (suc k) && touches xs k)

-- a `.` or `->` is directly before index k: it is a member, or in a designator
unfoldable pub follows_accessor : List Item → ℕ → Bool
follows_accessor xs zero = false
follows_accessor xs (suc k) = is_dot xs k || is_arrow xs k

-- `struct`, `union` or `enum` is directly before index k
unfoldable pub after_keyword : List Item → ℕ → Bool
after_keyword xs zero = false
after_keyword xs (suc k) = is_keyword_at xs k

-- how many names there are from index k on
abbrev pub names_at : List Item → ℕ → ℕ
names_at xs k = length (take_while is_name_item (drop k xs))

-- the name at index k is a tag: directly before the `{` of a body; or directly behind the word,
-- where no other name is the tag of a body
abbrev pub is_tag : List Item → ℕ → Bool
is_tag xs k =
    if is_at open_brace xs (suc k) then follows_keyword xs k
    else after_keyword xs k && not (is_at open_brace xs (suc k + names_at xs (suc k)))

-- index k is an ordinary name
abbrev pub is_ordinary : List Item → ℕ → ℕ → Bool
is_ordinary xs b k =
    is_name_at xs k && not (follows_accessor xs k || is_tag xs k || names_label xs b k)
