-- The uses and calls of a text by their keys. An item is the number of a use among the uses, or of
-- a call among the calls, from 0.
use Rattle.std.specs.Prelude.{ℕ, suc, ◌-◌, Bool, not, List, Option, length, filter, slice_get}
use Rattle.std.specs.List.{list_any, range_with_len}
use Rattle.std.specs.Option.{option_map, option_map_or}
use Rattle.std.specs.Str.{bytes_eq}
use Rattle.cb_scan.specs.declared.facts.Call.{Call}
use Rattle.cb_scan.specs.declared.facts.Use.{Use}
use Rattle.cb_scan.specs.declared.lex.piece.Span.{Span}
use Rattle.cb_scan.specs.TextFacts.{TextFacts}
use Rattle.cb_index.specs.Bytes.{bytes_at}
use Rattle.cb_index.specs.Scanned.{Scanned, facts_of}
use Rattle.cb_index.specs.declared.entry.FactKind.{FactKind}
use Rattle.cb_index.specs.declared.entry.FactKind.TheVariants.{Uses, Callees, Callers}

-- the name of a use, the called name of a call and the name that calls, if they are there
abbrev pub use_span : TextFacts → ℕ → Option Span
use_span f item = option_map (λ (u : Use). u.name) (slice_get f.uses item)

abbrev pub callee_span : TextFacts → ℕ → Option Span
callee_span f item = option_map (λ (c : Call). c.callee) (slice_get f.calls item)

abbrev pub caller_span : TextFacts → ℕ → Option Span
caller_span f item = option_map (λ (c : Call). c.caller) (slice_get f.calls item)

abbrev pub item_span : FactKind → TextFacts → ℕ → Option Span
item_span Uses = use_span
item_span Callees = callee_span
item_span Callers = caller_span

-- the line of a use, and of a call; 0 where it is not there
abbrev pub use_line : TextFacts → ℕ → ℕ
use_line f item = option_map_or (λ (u : Use). u.line) (slice_get f.uses item) 0

abbrev pub call_line : TextFacts → ℕ → ℕ
call_line f item = option_map_or (λ (c : Call). c.line) (slice_get f.calls item) 0

abbrev pub item_line : FactKind → TextFacts → ℕ → ℕ
item_line Uses = use_line
item_line Callees = call_line
item_line Callers = call_line

-- the key of an item
abbrev pub item_key : FactKind → Scanned → ℕ → List ℕ
item_key sort text item = bytes_at text.bytes (item_span sort (facts_of text) item)

-- how many items a text has
abbrev pub item_count : FactKind → Scanned → ℕ
item_count Uses text = length (facts_of text).uses
item_count Callees text = length (facts_of text).calls
item_count Callers text = length (facts_of text).calls

-- whether two items have one key
abbrev pub have_one_key : FactKind → Scanned → ℕ → ℕ → Bool
have_one_key sort text i j = bytes_eq (item_key sort text i) (item_key sort text j)

-- whether no item before an item has its key
unfoldable pub is_first : FactKind → Scanned → ℕ → Bool
is_first sort text item = not (list_any (have_one_key sort text item) (range_with_len 0 item))

-- the items behind an item that have its key
unfoldable pub later : FactKind → Scanned → ℕ → List ℕ
later sort text item =
    filter (have_one_key sort text item)
    (range_with_len (suc item) (item_count sort text - suc item))
