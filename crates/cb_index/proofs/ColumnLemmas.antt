-- The cells of items, and what one with another hash tells.
use Rattle.std.proofs.Common.{◌≡◌, ◌∙◌, ◌+◌, ◌-◌, ◌<◌, ◌≤◌, ℕ, zero, suc, Bool, true, false, List, ◌∷◌}
use Rattle.std.proofs.Common.{Some, None, refl, sym, ap, filter, length, get_or, drop, arith, ◌⊎◌, inl}
use Rattle.std.proofs.Common.{inr, ⊎_elim}
use Rattle.std.proofs.lemmas.Bool.{cases_lt, true≢false}
use Rattle.std.proofs.lemmas.Bool.Decides.{Decides-eqb}
use Rattle.std.proofs.lemmas.List.{get_or-drop, get_or-take, length-drop, length-take}
use Rattle.std.proofs.lemmas.List.Folds.{list_any_at}
use Rattle.std.proofs.lemmas.List.FromFn.{get_or-map-range_with_len, length-map-range_with_len}
use Rattle.std.proofs.lemmas.Option.{slice_get-get_or, slice_get_past}
use Rattle.std.proofs.lemmas.Slice.Eq.{bytes_eq-Decides}
use Rattle.std.specs.Prelude.{cond, nat_eq, slice_get, take}
use Rattle.std.specs.List.{list_any, range_with_len}
use Rattle.std.specs.Option.{option_map_or}
use Rattle.std.specs.Str.{bytes_eq}
use Rattle.cb_index.specs.Columns.{AreColumns, AreFar, Columned, HasNone, cell_of, cells_to}
use Rattle.cb_index.specs.Columns.{column_for, column_of, is_near}
use Rattle.cb_index.specs.Hash.{hash}
use Rattle.cb_index.specs.Bytes.{bytes_at}
use Rattle.cb_index.specs.Items.{have_one_key, item_count, item_key, item_span}
use Rattle.cb_index.specs.Scanned.{Scanned, facts_of}
use Rattle.cb_index.specs.Cells.{Cell}
use Rattle.cb_index.specs.declared.entry.FactKind.{FactKind}
use Rattle.cb_index.specs.declared.entry.FactKind.TheVariants.{Uses, Callees, Callers}
use Rattle.cb_index.proofs.CompactLemmas.{all_at}
use Rattle.cb_index.proofs.RangeItems.{range_next}

not_true : (b : Bool) → (b ≡ true → true ≡ false) → b ≡ false
not_true true never = never refl
not_true false never = refl

pub column_is : (sort : FactKind) (text : Scanned) (c : Columned) → AreColumns text c
    → column_for sort c ≡ column_of sort text
column_is Uses text c are = are.uses
column_is Callees text c are = are.callees
column_is Callers text c are = are.callers

-- the cell that is found is the one of its item
pub cell_is : (sort : FactKind) (text : Scanned) (cells : List Cell) (item : ℕ) (cell : Cell)
    → cells ≡ column_of sort text → item < length cells → cell ≡ get_or cells item cell
    → cell ≡ cell_of sort text item
cell_is sort text cells item cell are there is =
    let count = item_count sort text in
    let size : length cells ≡ count =
    ap length are ∙ length-map-range_with_len (cell_of sort text) 0 count in
    is ∙ ap (λ cs. get_or cs item cell) are
    ∙ get_or-map-range_with_len (cell_of sort text) 0 count item item cell
    (omega (arith, size, there)) (omega arith)

-- an item whose cell has another hash has another key
pub far_key : (sort : FactKind) (text : Scanned) (cells : List Cell) (n item : ℕ) (key : List ℕ)
    → cells ≡ cells_to sort text n → is_near cells item (hash key) ≡ false
    → bytes_eq key (item_key sort text item) ≡ false
far_key sort text cells n item key are far = by_order (cases_lt item n)
  where
    none : Cell
    none = record { hash = 0; repeat = false }

    size : length cells ≡ n
    size = ap length are ∙ length-map-range_with_len (cell_of sort text) 0 n

    own : List ℕ
    own = item_key sort text item

    by_order : (item < n) ⊎ (n ≤ item) → bytes_eq key own ≡ false
    by_order (inl below) =
        let at : slice_get cells item ≡ Some (cell_of sort text item) =
        slice_get-get_or cells item none (omega (arith, size, below))
        ∙ ap (λ cs. Some (get_or cs item none)) are
        ∙ ap Some (get_or-map-range_with_len (cell_of sort text) 0 n item item none below
        (omega arith)) in
        let other : nat_eq (hash own) (hash key) ≡ false =
        sym (ap (λ o. option_map_or (λ (c : Cell). nat_eq c.hash (hash key)) o true) at) ∙ far in
        not_true (bytes_eq key own)
        (λ is. sym ((Decides-eqb (hash own) (hash key)).1
        (ap hash (sym ((bytes_eq-Decides key own).0 is)))) ∙ other)
    by_order (inr past) =
        let at : slice_get cells item ≡ None = slice_get_past cells item (omega (arith, size, past)) in
        absurd (true≢false
        (sym (ap (λ o. option_map_or (λ (c : Cell). nat_eq c.hash (hash key)) o true) at) ∙ far))

pub far_from : (sort : FactKind) (text : Scanned) (key : List ℕ) (item : ℕ)
    → item < item_count sort text → HasNone (hash key) (column_of sort text)
    → bytes_eq key (item_key sort text item) ≡ false
far_from sort text key item below none =
    let count = item_count sort text in
    let cells = column_of sort text in
    let nowhere : Cell = record { hash = 0; repeat = false } in
    let size : length cells ≡ count = length-map-range_with_len (cell_of sort text) 0 count in
    let within : item < length cells = omega (arith, size, below) in
    far_key sort text cells count item key refl
    (ap (λ o. option_map_or (λ (c : Cell). nat_eq c.hash (hash key)) o true)
    (slice_get-get_or cells item nowhere within)
    ∙ all_at (λ (c : Cell). nat_eq c.hash (hash key) ≡ false) cells item nowhere within none)

-- keys that stand at one place are one key
pub one_key : (text : Scanned) (sort : FactKind) (a b : ℕ)
    → item_span sort (facts_of text) a ≡ item_span sort (facts_of text) b
    → true ≡ have_one_key sort text a b
one_key text sort a b is =
    sym ((bytes_eq-Decides (item_key sort text a) (item_key sort text b)).1
    (ap (bytes_at text.bytes) is))

-- ---- items that may not have a hash
is_far : (cells : List Cell) (k hash : ℕ) (d : Cell) → k < length cells
    → nat_eq (get_or cells k d).hash hash ≡ false → is_near cells k hash ≡ false
is_far cells k hash d below isnt =
    ap (λ o. option_map_or (λ (c : Cell). nat_eq c.hash hash) o true)
    (slice_get-get_or cells k d below)
    ∙ isnt

-- none of a block has the hash
pub block_far : (cells : List Cell) (from at to hash : ℕ) → AreFar cells from at hash
    → to ≤ length cells
    → list_any (λ (c : Cell). nat_eq c.hash hash) (take (to - at) (drop at cells)) ≡ false
    → AreFar cells from to hash
block_far cells from at to hash far within none k low up = ⊎_elim
    (λ (early : k < at). far k low early)
    (λ (late : at ≤ k).
    let there : k - at < length block =
    omega (arith, late, up, within, length-take (to - at) (drop at cells), length-drop at cells) in
    let under : k - at < to - at = omega (arith, late, up) in
    let back : at + (k - at) ≡ k = omega (arith, late) in
    let same : get_or block (k - at) no_cell ≡ get_or cells k no_cell =
    get_or-take (to - at) (drop at cells) (k - at) no_cell under
    ∙ get_or-drop at cells (k - at) no_cell ∙ ap (λ m. get_or cells m no_cell) back in
    is_far cells k hash no_cell (omega (arith, up, within))
    (sym (ap (λ (c : Cell). nat_eq c.hash hash) same)
    ∙ not_true (nat_eq (get_or block (k - at) no_cell).hash hash)
    (λ is.
    sym (list_any_at (λ (c : Cell). nat_eq c.hash hash) block (k - at) no_cell there is) ∙ none)))
    (cases_lt k at)
  where
    block : List Cell
    block = take (to - at) (drop at cells)

    no_cell : Cell
    no_cell = record { hash = 0; repeat = false }

-- what passes a test is not among the items that are passed
pub skipped : (p : ℕ → Bool) (count from to : ℕ) → from ≤ to
    → ((k : ℕ) → from ≤ k → k < to → p k ≡ false)
    → filter p (range_with_len to (count - to)) ≡ filter p (range_with_len from (count - from))
skipped p count from zero low none =
    let same : 0 ≡ from = omega (arith, low) in
    ap (λ n. filter p (range_with_len n (count - n))) same
skipped p count from (suc to) low none = ⊎_elim
    (λ (under : from < suc to).
    one (none to (omega (arith, under)) (omega arith))
    ∙ skipped p count from to (omega (arith, under))
    (λ k up below. none k up (omega (arith, below))))
    (λ (past : suc to ≤ from).
    let same : suc to ≡ from = omega (arith, low, past) in
    ap (λ n. filter p (range_with_len n (count - n))) same)
    (cases_lt from (suc to))
  where
    after : List ℕ
    after = filter p (range_with_len (suc to) (count - suc to))

    one : p to ≡ false → after ≡ filter p (range_with_len to (count - to))
    one isnt = ⊎_elim
        (λ (below : to < count).
        let more : count - to ≡ suc (count - suc to) = omega (arith, below) in
        sym (ap (λ n. filter p (range_with_len to n)) more
        ∙ ap (filter p) (range_next to (count - suc to)) ∙ ap (λ b. cond b (to ∷ after) after) isnt))
        (λ (past : count ≤ to).
        let here : count - to ≡ 0 = omega (arith, past) in
        let next : count - suc to ≡ 0 = omega (arith, past) in
        ap (λ n. filter p (range_with_len (suc to) n)) next
        ∙ sym (ap (λ n. filter p (range_with_len to n)) here))
        (cases_lt to count)

-- and so they have not the key
pub far_keys : (sort : FactKind) (text : Scanned) (cells : List Cell) (key : List ℕ) (from to h : ℕ)
    → cells ≡ column_of sort text → h ≡ hash key → AreFar cells from to h
    → (k : ℕ) → from ≤ k → k < to → bytes_eq key (item_key sort text k) ≡ false
far_keys sort text cells key from to h are is far k low up =
    far_key sort text cells (item_count sort text) k key are
    (sym (ap (is_near cells k) is) ∙ far k low up)
