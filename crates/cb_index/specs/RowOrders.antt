-- Rows, and the five orders of them.
use Rattle.std.specs.Prelude.{ℕ, List, [], ◌∷◌, Option, Some, None, filter, map, slice_get}
use Rattle.std.specs.Cmp.Lexicographic.{slice_cmp}
use Rattle.std.specs.List.{range_with_len}
use Rattle.std.specs.Ordering.{nat_cmp, ordering_then}
use Rattle.std.specs.Str.{bytes_eq}
use Rattle.std.specs.declared.cmp.Ordering.{Ordering}
use Rattle.cb_scan.specs.declared.facts.Def.{Def}
use Rattle.cb_scan.specs.declared.lex.piece.Span.{Span}
use Rattle.cb_scan.specs.Order.{kind_rank}
use Rattle.cb_index.specs.Archived.{Archived, name_of, text_at}
use Rattle.cb_index.specs.Entries.{Keyer}
use Rattle.cb_index.specs.Items.{callee_span, use_span}
use Rattle.cb_index.specs.Orders.{def_span}
use Rattle.cb_index.specs.Scanned.{Scanned, facts_of}
use Rattle.cb_index.specs.declared.entry.Shown.{Shown}
use Rattle.cb_index.specs.Kinds.{keyer_of}
use Rattle.cb_index.specs.declared.entry.FactKind.TheVariants.{Uses, Callees, Callers}
use Rattle.cb_index.specs.declared.entry.IndexKind.{IndexKind}
use Rattle.cb_index.specs.declared.entry.IndexKind.TheVariants.{DefsByName, DefsByTagName, Facts}
use Rattle.cb_index.specs.declared.sorted.Row.{Row}

-- what an order reads of a fact beside its key: from the text of its version (if it is there) and
-- its number, where it begins, or the rank of its kind
abbrev pub Placer : Type 0
Placer = Option Scanned → ℕ → ℕ

-- how many facts of its sort a text has, if it is there
abbrev pub Counter : Type 0
Counter = Option Scanned → ℕ

-- the key of a row
abbrev pub row_key : Keyer → Archived → Row → List ℕ
row_key keyer a r = keyer (text_at a r.version) (name_of a r.name) r.item

-- what orders rows of one key in one file: place, kind, and then the numbers of the row
abbrev pub row_numbers : Placer → Placer → Archived → Row → List ℕ
row_numbers start rank a r =
    start (text_at a r.version) r.item ∷ rank (text_at a r.version) r.item
    ∷ r.name ∷ r.version ∷ r.item ∷ []

-- two rows: by key, by file name, and then by those numbers
abbrev pub row_cmp : Keyer → Placer → Placer → Archived → Row → Row → Ordering
row_cmp keyer start rank a r s =
    ordering_then (slice_cmp nat_cmp (row_key keyer a r) (row_key keyer a s))
    (ordering_then (slice_cmp nat_cmp (name_of a r.name) (name_of a s.name))
    (slice_cmp nat_cmp (row_numbers start rank a r) (row_numbers start rank a s)))

-- the row of an item of a version under a name
abbrev pub row_under : Shown → ℕ → Row
row_under s item = record { name = s.name; version = s.version; item = item }

-- the rows of a version under a name that have a key, by item
abbrev pub rows_with : Keyer → Counter → Archived → List ℕ → Shown → List Row
rows_with keyer count a key s =
    map (row_under s) (filter (λ item. bytes_eq key (row_key keyer a (row_under s item)))
    (range_with_len 0 (count (text_at a s.version))))

-- where a span begins; 0 where there is none
abbrev pub start_of : Option Span → ℕ
start_of None = 0
start_of (Some span) = span.start

-- uses and calls have no kinds
abbrev pub no_rank : Placer
no_rank text item = 0

-- ---- uses by name
abbrev pub use_start : Placer
use_start None item = 0
use_start (Some text) item = start_of (use_span (facts_of text) item)

-- ---- calls, which go by the place of the called name
abbrev pub call_start : Placer
call_start None item = 0
call_start (Some text) item = start_of (callee_span (facts_of text) item)

-- ---- definitions, by name and by tag name
abbrev pub def_start : Placer
def_start None item = 0
def_start (Some text) item = start_of (def_span (facts_of text) item)

abbrev pub rank_of : Option Def → ℕ
rank_of None = 0
rank_of (Some d) = kind_rank d.kind

abbrev pub def_rank : Placer
def_rank None item = 0
def_rank (Some text) item = rank_of (slice_get (facts_of text).defs item)

-- ---- by kind of index
abbrev pub start_for : IndexKind → Placer
start_for DefsByName = def_start
start_for DefsByTagName = def_start
start_for (Facts Uses) = use_start
start_for (Facts Callees) = call_start
start_for (Facts Callers) = call_start

abbrev pub rank_for : IndexKind → Placer
rank_for DefsByName = def_rank
rank_for DefsByTagName = def_rank
rank_for (Facts kind) = no_rank

-- two rows in the order of a kind
abbrev pub row_order : IndexKind → Archived → Row → Row → Ordering
row_order kind a r s = row_cmp (keyer_of kind) (start_for kind) (rank_for kind) a r s
