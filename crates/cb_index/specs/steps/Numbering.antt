-- How repeats are found where many items are on one line. The number of an item is the first one
-- that shows its name in the function column, so names are told apart by numbers, and rows by these.
use Rattle.std.specs.Prelude.{◌≡◌, ℕ, zero, suc, Bool, List, [], Option, Some, None}
use Rattle.std.specs.Prelude.{if◌then◌else◌, unwrap_or}
use Rattle.std.specs.Borrow.{Bor}
use Rattle.std.specs.BTreeMap.{BTreeMap}
use Rattle.std.specs.BTreeMap as tree
use Rattle.std.specs.BTreeSet.{BTreeSet}
use Rattle.std.specs.BTreeSet as sorted
use Rattle.std.specs.Cmp.Lexicographic.{slice_cmp}
use Rattle.std.specs.Option.{option_or}
use Rattle.std.specs.Ordering.{is_eq, nat_cmp, ordering_then}
use Rattle.std.specs.declared.cmp.Ordering.{Ordering}
use Rattle.cb_index.specs.Counts.{function_of}
use Rattle.cb_index.specs.Items.{item_key, item_line}
use Rattle.cb_index.specs.Repeats.{any_below}
use Rattle.cb_index.specs.Scanned.{Scanned, facts_of}
use Rattle.cb_index.specs.declared.entry.FactKind.{FactKind}
use Rattle.cb_index.specs.steps.Found.{fact_at}

-- a number, where a test is passed
abbrev pub some_if : Bool → ℕ → Option ℕ
some_if b n = if b then Some n else None

-- the first of the numbers below one that passes a test
unfoldable pub first_below : (ℕ → Bool) → ℕ → Option ℕ
first_below p zero = None
first_below p (suc n) = option_or (first_below p n) (some_if (p n) n)

-- ---- names

-- the name in the function column of an item
abbrev pub function_at : FactKind → Scanned → ℕ → List ℕ
function_at sort text item = function_of sort (fact_at sort [] text item)

-- whether an item shows a name
abbrev pub shows : FactKind → Scanned → List ℕ → ℕ → Bool
shows sort text name k = is_eq (slice_cmp nat_cmp (function_at sort text k) name)

-- the first of the items below one that shows a name
abbrev pub first_shown : FactKind → Scanned → List ℕ → ℕ → Option ℕ
first_shown sort text name n = first_below (shows sort text name) n

-- the number of an item: the first one that shows its name, which may be itself
unfoldable pub number_of : FactKind → Scanned → ℕ → ℕ
number_of sort text item = unwrap_or (first_shown sort text (function_at sort text item) item) item

-- the order of names
abbrev pub by_bytes : Bor (List ℕ) → Bor (List ℕ) → Ordering
by_bytes a b = slice_cmp nat_cmp a.now b.now

-- the item that is known under a name
abbrev pub known_as : BTreeMap (Bor (List ℕ)) ℕ → Bor (List ℕ) → Option ℕ
known_as known name = tree.get by_bytes known name

-- of the first items those are known that show a name first
abbrev pub Knows : FactKind → Scanned → BTreeMap (Bor (List ℕ)) ℕ → ℕ → Type 0
Knows sort text known n = (q : Bor (List ℕ)) → known_as known q ≡ first_shown sort text q.now n

-- ---- rows

-- a row: a line, the number of the item and its key
abbrev pub Row : Type 0
Row = ℕ × ℕ × Bor (List ℕ)

-- the order of rows
abbrev pub by_parts : Row → Row → Ordering
by_parts a b =
    ordering_then (ordering_then (nat_cmp a.0 b.0) (nat_cmp a.1 b.1))
    (slice_cmp nat_cmp a.2.now b.2.now)

-- whether an item has a row
abbrev pub has_row : FactKind → Scanned → Row → ℕ → Bool
has_row sort text r k =
    is_eq (ordering_then
    (ordering_then (nat_cmp (item_line sort (facts_of text) k) r.0)
    (nat_cmp (number_of sort text k) r.1))
    (slice_cmp nat_cmp (item_key sort text k) r.2.now))

-- these are the rows of the first items
abbrev pub AreRows : FactKind → Scanned → BTreeSet Row → ℕ → Type 0
AreRows sort text rows n =
    (r : Row) → sorted.contains by_parts rows r ≡ any_below (has_row sort text r) n
