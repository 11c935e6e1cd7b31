-- What one pass over tokens knows of statements: where they begin, and how many `?` are open since
-- the nearest `case`.
use Rattle.std.specs.Prelude.{◌≡◌, ◌<◌, ◌≤◌, ℕ, zero, suc, ◌+◌, ◌-◌, Bool, false, ◌&&◌, ◌||◌, ◌==◌}
use Rattle.std.specs.Prelude.{List, if◌then◌else◌, Option, None, Some, length, slice_index_or}
use Rattle.std.specs.Option.{option_map_or}
use Rattle.cb_scan.specs.Bytes.{close_brace, colon, semicolon}
use Rattle.cb_names.specs.Braces.{is_block, is_name_at}
use Rattle.cb_names.specs.Pairs.{ends_all, innermost, is_at, opens}
use Rattle.cb_names.specs.Statements.{case_before, ends_statement, is_case_at, is_default_at}
use Rattle.cb_names.specs.Statements.{is_lone_colon, question, starts}
use Rattle.cb_names.specs.Tables.{IsTable}
use Rattle.cb_names.specs.declared.braces.Brace.{Brace}
use Rattle.cb_names.specs.declared.braces.Brace.TheVariants.{Other}
use Rattle.cb_names.specs.declared.statements.Starting.{Starting}
use Rattle.cb_names.specs.declared.word.Item.{Item}

-- so many `?` are open since the nearest `case`
abbrev pub counts : ℕ → Option ℕ → Bool
counts d p = option_map_or (λ q. d == q) p false

-- how many `?` are open since the nearest `case` is known before index k
abbrev pub Tells : List Item → ℕ → Option ℕ → Type 0
Tells xs k p = (d : ℕ) → case_before xs (innermost xs k) d k ≡ counts d p

-- one `?` less, and one more
abbrev pub one_less : Option ℕ → Option ℕ
one_less p = option_map_or (λ q. if q == 0 then None else Some (q - 1)) p None

abbrev pub one_more : Option ℕ → Option ℕ
one_more p = option_map_or (λ q. Some (q + 1)) p None

-- after a token that is no bracket of a pair
abbrev pub after_plain : List Item → ℕ → Option ℕ → Option ℕ
after_plain xs k p =
    if is_at colon xs k then one_less p
    else (if is_at question xs k then one_more p
    else (if is_case_at xs k then Some 0 else p))

-- after a token, where these counts are known before each token up to it
abbrev pub case_after : List Item → List (Option ℕ) → ℕ → Option ℕ → Option ℕ → Option ℕ
case_after xs counts k closed p =
    if ends_all xs k then None
    else (if opens xs k then None
    else option_map_or (λ j. slice_index_or counts j None) closed (after_plain xs k p))

-- the most that may be open
abbrev pub most : Option ℕ → ℕ
most p = option_map_or (λ q. q) p 0

-- the bracket is the `{` of a block
abbrev pub in_block_by : List Brace → Option ℕ → Bool
in_block_by kinds o = option_map_or (λ j. is_block (slice_index_or kinds j Other)) o false

-- a statement begins behind index k, where so many `?` are open since the nearest `case`
abbrev pub ends_by : List Item → List Brace → Option ℕ → Option ℕ → ℕ → Bool
ends_by xs kinds partner p k =
    is_at semicolon xs k || is_block (slice_index_or kinds k Other)
    || (is_at close_brace xs k && in_block_by kinds partner)
    || (is_at colon xs k && counts 0 p)

-- `default` and its colon, or a label, is directly before index k
unfoldable pub follows_label : List Item → List Bool → ℕ → Bool
follows_label xs starts zero = false
follows_label xs starts (suc zero) = false
follows_label xs starts (suc (suc k)) =
    is_default_at xs k
    || (is_name_at xs k && is_lone_colon xs (suc k) && slice_index_or starts k false)

-- a statement of a block begins at index k, where these begin before it
abbrev pub starts_by : List Item → List Brace → List Bool → Option ℕ → Bool → ℕ → Bool
starts_by xs kinds starts around ends k =
    in_block_by kinds around && (ends || follows_label xs starts k)

-- the bracket that index k closes, where it pairs with this one
abbrev pub closed_by : List Item → ℕ → Option ℕ → Option ℕ
closed_by xs k pair = if opens xs k then None else pair

-- what is known before index k
pub record HoldsStarts (xs : List Item) (b k : ℕ) (s : Starting) : Type 0 where
  pub starts : IsTable (starts xs b) k s.starts.items
  pub len : length s.counts.items ≡ k
  pub counts : (i : ℕ) → i < k → Tells xs i (slice_index_or s.counts.items i None)
  pub few : (i : ℕ) → i < k → most (slice_index_or s.counts.items i None) ≤ i
  pub count : Tells xs k s.count
  pub small : most s.count ≤ k
  pub ends : (j : ℕ) → k ≡ suc j → s.ends ≡ ends_statement xs b j
