-- Where the statements of a block begin, and its labels (ISO C 2011, 6.8, found in tokens by this
-- project's profile). The body of the function begins at index b.
use Rattle.std.specs.Prelude.{ℕ, zero, suc, ◌-◌, Bool, true, false, ◌&&◌, ◌||◌, ◌==◌, not, List}
use Rattle.std.specs.Prelude.{if◌then◌else◌, Option, None, Some}
use Rattle.std.specs.Option.{option_map_or}
use Rattle.cb_scan.specs.Bytes.{close_brace, colon, semicolon}
use Rattle.cb_names.specs.Braces.{is_block, is_name_at, kind_at}
use Rattle.cb_names.specs.Pairs.{at, ends_all, innermost, is_at, partner, sign}
use Rattle.cb_names.specs.declared.word.Item.{Item}
use Rattle.cb_names.specs.declared.word.Word.{Word}
use Rattle.cb_names.specs.declared.word.Word.TheVariants as word

-- ---- words

abbrev pub is_case : Word → Bool
is_case word.Case = true
is_case _ = false

abbrev pub is_default : Word → Bool
is_default word.Default = true
is_default _ = false

abbrev pub is_for : Word → Bool
is_for word.For = true
is_for _ = false

-- the `case` at index k
abbrev pub is_case_at : List Item → ℕ → Bool
is_case_at xs k = sign xs k == 0 && is_case (at xs k).word

-- `?`
abbrev pub question : ℕ
question = 63

-- ---- the colon of a `case`

-- two brackets around are one, or none is around either
abbrev pub same_level : Option ℕ → Option ℕ → Bool
same_level None None = true
same_level (Some i) (Some j) = i == j
same_level None (Some j) = false
same_level (Some i) None = false

-- on a level, back from index k: the nearest `case` stands where as many `?` are open as d says,
-- each of which a colon closes
unfoldable pub case_before : List Item → Option ℕ → ℕ → ℕ → Bool
case_before xs level d zero = false
case_before xs level d (suc k) =
    if ends_all xs k then false
    else (if not (same_level level (innermost xs k)) then case_before xs level d k
    else (if is_at colon xs k then case_before xs level (suc d) k
    else (if is_at question xs k then not (d == 0) && case_before xs level (d - 1) k
    else (if is_case_at xs k then d == 0
    else case_before xs level d k))))

-- index k is the colon of the nearest `case` before it on its level
abbrev pub ends_case : List Item → ℕ → Bool
ends_case xs k = is_at colon xs k && case_before xs (innermost xs k) 0 k

-- ---- where a statement begins

-- the innermost bracket around index k is the `{` of a block
abbrev pub in_block : List Item → ℕ → ℕ → Bool
in_block xs b k = option_map_or (λ j. is_block (kind_at xs b j)) (innermost xs k) false

-- index k is the `}` of a block
abbrev pub closes_block : List Item → ℕ → ℕ → Bool
closes_block xs b k =
    is_at close_brace xs k && option_map_or (λ j. is_block (kind_at xs b j)) (partner xs k) false

-- index k is a colon that no colon touches from behind
abbrev pub is_lone_colon : List Item → ℕ → Bool
is_lone_colon xs k =
    is_at colon xs k
    && not (is_at colon xs (suc k)
    && (at xs k).token.token.span.end == (at xs (suc k)).token.token.span.start)

-- a statement begins behind index k whatever stands before that: a `;`, the `{` or the `}` of a
-- block, or the colon of a `case`
abbrev pub ends_statement : List Item → ℕ → ℕ → Bool
ends_statement xs b k =
    is_at semicolon xs k || is_block (kind_at xs b k) || closes_block xs b k || ends_case xs k

-- `default` at index k, and a colon behind it
abbrev pub is_default_at : List Item → ℕ → Bool
is_default_at xs k = is_default (at xs k).word && is_at colon xs (suc k)

-- a statement of a block begins at index k: behind one that ends, behind `default` and its colon,
-- or behind a label
unfoldable pub starts : List Item → ℕ → ℕ → Bool
starts xs b zero = false
starts xs b (suc zero) = in_block xs b 1 && ends_statement xs b 0
starts xs b (suc (suc k)) =
    in_block xs b (suc (suc k))
    && (ends_statement xs b (suc k)
    || (is_default_at xs k || (is_name_at xs k && is_lone_colon xs (suc k) && starts xs b k)))

-- the name at index k is a label: it begins a statement, and a colon follows
abbrev pub is_label : List Item → ℕ → ℕ → Bool
is_label xs b k = is_name_at xs k && is_lone_colon xs (suc k) && starts xs b k
