-- What a version keeps beside its uses and calls, so that those of one key are found by a number.
use Rattle.std.specs.Prelude.{ℕ, ◌≡◌, ◌≤◌, ◌<◌, ◌%◌, Bool, false, true, nat_eq, nat_lt, if◌then◌else◌, max}
use Rattle.std.specs.Prelude.{List, [], ◌∷◌, get_or, length, map, slice_get, slice_set}
use Rattle.std.specs.List.{AllByRecursion, range_with_len}
use Rattle.std.specs.Option.{option_map_or}
use Rattle.cb_index.specs.Cells.{Cell}
use Rattle.cb_index.specs.Hash.{hash}
use Rattle.cb_index.specs.Items.{item_count, item_key}
use Rattle.cb_index.specs.Repeats.{is_repeat}
use Rattle.cb_index.specs.Scanned.{Scanned}
use Rattle.cb_index.specs.declared.entry.FactKind.{FactKind}
use Rattle.cb_index.specs.declared.entry.FactKind.TheVariants.{Uses, Callees, Callers}

-- the cell of an item: the hash of its key, and whether one before it has that key and its row
abbrev pub cell_of : FactKind → Scanned → ℕ → Cell
cell_of sort text item = record {
  hash = hash (item_key sort text item);
  repeat = is_repeat sort text item;
}

-- those of the first items
abbrev pub cells_to : FactKind → Scanned → ℕ → List Cell
cells_to sort text n = map (cell_of sort text) (range_with_len 0 n)

-- those of all items
abbrev pub column_of : FactKind → Scanned → List Cell
column_of sort text = cells_to sort text (item_count sort text)

-- ---- signatures: rows of flags, in which that of each hash is set that a column has

-- the place of the flag of a hash
abbrev pub flag_place : List Bool → ℕ → ℕ
flag_place flags hash = hash % max (length flags) 1

-- the flag of a hash; set where there is none
abbrev pub flag_of : List Bool → ℕ → Bool
flag_of flags hash = get_or flags (flag_place flags hash) true

-- flags with that of a hash set
abbrev pub with_flag : List Bool → ℕ → List Bool
with_flag flags hash =
    if nat_lt (flag_place flags hash) (length flags)
    then slice_set flags (flag_place flags hash) true else flags

-- flags with those of cells set
unfoldable pub with_flags : List Bool → List Cell → List Bool
with_flags flags [] = flags
with_flags flags (c ∷ cs) = with_flags (with_flag flags c.hash) cs

-- the flags of these cells are set
abbrev pub AreFlagged : List Bool → List Cell → Type 0
AreFlagged flags cells = AllByRecursion (λ (c : Cell). flag_of flags c.hash ≡ true) cells

-- no cell has this hash
abbrev pub HasNone : ℕ → List Cell → Type 0
HasNone hash cells = AllByRecursion (λ (c : Cell). nat_eq c.hash hash ≡ false) cells

-- ---- what a version keeps

-- the columns of uses, of calls by the called name, and of calls by the name that calls; and the
-- signature of all three
pub record Columned : Type 0 where
  pub uses : List Cell
  pub callees : List Cell
  pub callers : List Cell
  pub signature : List Bool

-- that of a sort
abbrev pub column_for : FactKind → Columned → List Cell
column_for Uses c = c.uses
column_for Callees c = c.callees
column_for Callers c = c.callers

-- these are the columns of a text, with the flags of all their cells set
pub record AreColumns (text : Scanned) (c : Columned) : Type 0 where
  pub uses : c.uses ≡ column_of Uses text
  pub callees : c.callees ≡ column_of Callees text
  pub callers : c.callers ≡ column_of Callers text
  pub uses_flagged : AreFlagged c.signature c.uses
  pub callees_flagged : AreFlagged c.signature c.callees
  pub callers_flagged : AreFlagged c.signature c.callers

-- whether an item may have a key of a hash: it has none where its cell has another one
abbrev pub is_near : List Cell → ℕ → ℕ → Bool
is_near cells item hash = option_map_or (λ (c : Cell). nat_eq c.hash hash) (slice_get cells item) true

-- no item from one up to another may have it
abbrev pub AreFar : List Cell → ℕ → ℕ → ℕ → Type 0
AreFar cells from to hash = (k : ℕ) → from ≤ k → k < to → is_near cells k hash ≡ false
