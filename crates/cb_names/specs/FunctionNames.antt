-- The names of the function around a place, and which of them have arguments. This is the project's
-- profile.
use Rattle.std.specs.Prelude.{ℕ, zero, suc, ◌+◌, ◌-◌, Bool, true, false, ◌&&◌, ◌||◌, nat_lt, not, List, []}
use Rattle.std.specs.Prelude.{◌∷◌, filter, find, length, map, Option, unwrap_or}
use Rattle.std.specs.List.{list_any, range_with_len}
use Rattle.std.specs.Option.{option_map, option_map_or}
use Rattle.cb_scan.specs.Bytes.{close_brace, open_paren}
use Rattle.cb_scan.specs.Profiles.{ranges_in}
use Rattle.cb_scan.specs.declared.lex.piece.Span.{Span}
use Rattle.cb_scan.specs.declared.profile.Rules.TheVariants.{Wide}
use Rattle.cb_scan.specs.declared.rules.scope.Range.{Range}
use Rattle.cb_names.specs.Accesses.{ampersand, ends_operand}
use Rattle.cb_names.specs.Braces.{follows_separator, is_name_at, kind_at}
use Rattle.cb_names.specs.Declarations.{is_name_item}
use Rattle.cb_names.specs.Functions.{before, body_of, extent, function_at, items, own_items, start}
use Rattle.cb_names.specs.HardAttributes.{is_hard}
use Rattle.cb_names.specs.Labels.{span}
use Rattle.cb_names.specs.Pairs.{at, innermost, is_at, is_index, partner}
use Rattle.cb_names.specs.Scoped.{follows_enum, is_body}
use Rattle.cb_names.specs.Spaces.{touches}
use Rattle.cb_names.specs.Statements.{in_block, is_lone_colon}
use Rattle.cb_names.specs.Tables.{those_where}
use Rattle.cb_names.specs.declared.names.Arguments.{Arguments}
use Rattle.cb_names.specs.declared.word.Item.{Item}

-- the names of some tokens, by place
abbrev pub names_of : List Item → List Span
names_of xs = map span (filter is_name_item xs)

-- index k is a name that is directly before a `(` which pairs
abbrev pub has_arguments : List Item → ℕ → Bool
has_arguments xs k =
    is_name_at xs k && is_at open_paren xs (suc k)
    && option_map_or (λ _. true) (partner xs (suc k)) false

-- its arguments end where the `)` begins
abbrev pub arguments_at : List Item → ℕ → Arguments
arguments_at xs k = record {
  name = span (at xs k);
  end = start (at xs (unwrap_or (partner xs (suc k)) 0));
}

abbrev pub arguments_of : List Item → List Arguments
arguments_of xs = those_where (arguments_at xs) (has_arguments xs) (length xs)

-- index k is a name that is not directly before a `(`
abbrev pub is_lone : List Item → ℕ → Bool
is_lone xs k = is_name_at xs k && not (is_at open_paren xs (suc k))

abbrev pub lone_of : List Item → List Span
lone_of xs = those_where (λ k. span (at xs k)) (is_lone xs) (length xs)

-- ---- names of which the rules cannot tell what they mean

-- an operand ends directly before index k
unfoldable pub follows_operand : List Item → ℕ → Bool
follows_operand xs zero = false
follows_operand xs (suc k) = ends_operand xs k

-- `&&` is directly before index k, and behind no operand: it takes the address of a label
unfoldable pub follows_label_sign : List Item → ℕ → Bool
follows_label_sign xs zero = false
follows_label_sign xs (suc zero) = false
follows_label_sign xs (suc (suc k)) =
    is_at ampersand xs (suc k) && is_at ampersand xs k && touches xs k
    && not (follows_operand xs k)

-- index k names what a value is given to, in the old way: it begins the value, and a colon follows.
-- In a block it is a label
abbrev pub is_old_designator : List Item → (b : ℕ) → ℕ → Bool
is_old_designator xs b k =
    follows_separator xs k && is_lone_colon xs (k + 1) && not (in_block xs b k)

-- the innermost bracket around index k is the `{` of a structure or union
abbrev pub is_in_structure : List Item → (b : ℕ) → ℕ → Bool
is_in_structure xs b k =
    option_map_or (λ j. is_body (kind_at xs b j) && not (follows_enum xs j)) (innermost xs k) false

abbrev pub is_unsure : List Item → (b : ℕ) → ℕ → Bool
is_unsure xs b k =
    is_name_at xs k
    && (follows_label_sign xs k || is_old_designator xs b k || is_in_structure xs b k)

-- in a function whose body begins at index b
abbrev pub unsure_of : List Item → (b : ℕ) → List Span
unsure_of xs b = those_where (λ k. span (at xs k)) (is_unsure xs b) (length xs)

-- ---- functions that are not whole

-- the last token closes the body that begins at index b, and no other bracket with it
abbrev pub ends_itself : List Item → ℕ → Bool
ends_itself xs b =
    is_at close_brace xs (length xs - 1) && is_index b (innermost xs (length xs - 1))

-- a word of an attribute is left, as of `asm volatile`: its parentheses are no code
abbrev pub has_hard : List Item → Bool
has_hard xs = list_any (λ (x : Item). is_hard x.word) xs

-- the index where the name of the next function is, among all tokens
abbrev pub next_name : List Item → List Range → Range → ℕ
next_name xs rs r =
    option_map_or (λ (q : Range). before q.name.start xs)
    (find (λ (q : Range). nat_lt r.end q.name.start) rs) (length xs)

-- index k is a `}` with no partner
abbrev pub is_lone_end : List Item → ℕ → Bool
is_lone_end xs k = is_at close_brace xs k && option_map_or (λ _. false) (partner xs k) true

-- one is between the function and the next: parts of it may be behind its end
abbrev pub goes_on : List Item → List Range → Range → Bool
goes_on xs rs r =
    list_any (is_lone_end xs)
    (range_with_len (before r.end xs) (next_name xs rs r - before r.end xs))

-- all of a function is there whose body begins at index b, where it is known whether it goes on
abbrev pub is_whole : List Item → (b : ℕ) → (more : Bool) → Bool
is_whole xs b more = ends_itself xs b && not (has_hard xs) && not more

-- ---- all of it

-- what is known of a function: from its first token to its end; all names of its code; those that are
-- not of attributes that are left out everywhere, those of them that have arguments, those that are
-- not before a `(`, and those of which the rules cannot tell what they mean; and whether all of it is
-- there
pub record FunctionNames : Type 0 where
  pub extent : Span
  pub names : List Span
  pub own : List Span
  pub arguments : List Arguments
  pub lone : List Span
  pub unsure : List Span
  pub whole : Bool

-- where the first of some tokens begins
abbrev pub first_start : List Item → ℕ
first_start [] = 0
first_start (x ∷ xs) = start x

-- by its extent, all its names, the tokens that are left in, where its body begins among these, and
-- whether it goes on
abbrev pub names_over : Span → List Span → (kept : List Item) → (b : ℕ) → (more : Bool)
    → FunctionNames
names_over extent names kept b more = record {
  extent = extent;
  names = names;
  own = names_of kept;
  arguments = arguments_of kept;
  lone = lone_of kept;
  unsure = unsure_of kept b;
  whole = is_whole kept b more;
}

-- by its tokens, those of them that are left in, its range, and whether it goes on
abbrev pub names_by : (xs kept : List Item) → Range → (more : Bool) → FunctionNames
names_by xs kept r more =
    names_over (record { start = first_start xs; end = r.end }) (names_of xs) kept (body_of kept r)
    more

-- by all tokens and all functions
abbrev pub names_in : List Item → List Range → Range → FunctionNames
names_in xs rs r = names_by (extent xs r) (own_items xs r) r (goes_on xs rs r)

-- of the function around a place of a text
abbrev pub function_names : List ℕ → ℕ → Option FunctionNames
function_names text place =
    option_map (names_in (items text) (ranges_in Wide text)) (function_at text place)
