-- What the entries of an index are as rows.
use Rattle.std.specs.Prelude.{ℕ, ◌≡◌, List, Option, filter}
use Rattle.std.specs.List.{AllByRecursion, flat_map}
use Rattle.std.specs.declared.cmp.Ordering.TheVariants.{Less}
use Rattle.cb_scan.specs.Order.{AreOrdered}
use Rattle.cb_index.specs.Archived.{Archived}
use Rattle.cb_index.specs.Entries.{Keyer, has_key}
use Rattle.cb_index.specs.Files.{AreAscending, IsThere, count_for}
use Rattle.cb_index.specs.Held.{Lister}
use Rattle.cb_index.specs.Kinds.{fact_kind, keyer_of, lister_of, prefix_of}
use Rattle.cb_index.specs.RowOrders.{Counter, row_order, rows_with}
use Rattle.cb_index.specs.Shelved.{IsIndexOf}
use Rattle.cb_index.specs.steps.Spread.{rows_in}
use Rattle.cb_index.specs.declared.entry.Posting.{Posting}
use Rattle.cb_index.specs.declared.entry.Shown.{Shown}
use Rattle.cb_index.specs.declared.entry.FactKind.{FactKind}
use Rattle.cb_index.specs.declared.entry.IndexKind.{IndexKind}
use Rattle.cb_index.specs.declared.sorted.Row.{Row}

-- the entries of an index that have a key, spread out, are the rows of the files that have it, by
-- file name and then by item
abbrev pub SpreadsBy : Keyer → Lister → (List ℕ → ℕ) → Option FactKind → Counter → Type 0
SpreadsBy keyer lister prefix sort count =
    (a : Archived) (shown : List Shown) (key : List ℕ) (es : List Posting)
    → AllByRecursion (IsThere a) shown → AreAscending a shown → IsIndexOf keyer lister a shown es
    → rows_in sort a (filter (has_key keyer a (prefix key) key) es)
    ≡ flat_map (rows_with keyer count a key) shown

-- so for an index of a kind
abbrev pub SpreadsInto : IndexKind → Type 0
SpreadsInto kind =
    SpreadsBy (keyer_of kind) (lister_of kind) (prefix_of kind) (fact_kind kind) (count_for kind)

-- ---- an index of its own

-- the rows of files that have a key, by file name and then by item
abbrev pub rows_of_key : IndexKind → Archived → List ℕ → List Shown → List Row
rows_of_key kind a key shown = flat_map (rows_with (keyer_of kind) (count_for kind) a key) shown

-- an index holds the rows of these files, which are there and whose names ascend
pub record HoldsRowsOf (kind : IndexKind) (a : Archived) (shown : List Shown) (es : List Posting) :
    Type 0 where
  pub there : AllByRecursion (IsThere a) shown
  pub ascending : AreAscending a shown
  pub entries : IsIndexOf (keyer_of kind) (lister_of kind) a shown es

-- the rows of a key in files whose names ascend stand in the strict order of their kind
abbrev pub RowsAscend : IndexKind → Type 0
RowsAscend kind =
    (a : Archived) (shown : List Shown) (key : List ℕ) → AreAscending a shown
    → AreOrdered (λ r s. row_order kind a r s ≡ Less) (rows_of_key kind a key shown)
