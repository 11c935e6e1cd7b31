-- The rows of a key in files whose names ascend stand in their strict order.
use Rattle.std.proofs.Common.{◌≡◌, ◌∙◌, ◌≤◌, ◌<◌, ◌+◌, ◌⊎◌, ℕ, zero, suc, Bool, true, false, List}
use Rattle.std.proofs.Common.{[]}
use Rattle.std.proofs.Common.{◌∷◌, Some, refl, sym, ap, subst, length, map, filter, get_or, arith}
use Rattle.std.proofs.Common.{inl, inr, ⊎_elim}
use Rattle.std.proofs.lemmas.Bool.{cases_lt}
use Rattle.std.proofs.lemmas.Cmp.{nat_cmp_total, nat_list_cmp_total, tied_itself}
use Rattle.std.proofs.lemmas.Option.{slice_get-get_or}
use Rattle.std.proofs.lemmas.Slice.Eq.{bytes_eq-Decides}
use Rattle.std.specs.Prelude.{cond, slice_get, Option, None}
use Rattle.std.specs.Cmp.{nat_cmp_is}
use Rattle.std.specs.Cmp.Lexicographic.{slice_cmp}
use Rattle.std.specs.List.{AllByRecursion, range_with_len}
use Rattle.std.specs.Option.{option_map}
use Rattle.std.specs.Ordering.{nat_cmp, ordering_then}
use Rattle.std.specs.Str.{bytes_eq}
use Rattle.std.specs.declared.cmp.Ordering.{Ordering}
use Rattle.std.specs.declared.cmp.Ordering.TheVariants.{Less, Equal}
use Rattle.cb_scan.specs.Order.{AreOrdered, IsDefBefore, kind_rank}
use Rattle.cb_scan.specs.declared.facts.Call.{Call}
use Rattle.cb_scan.specs.declared.facts.Def.{Def}
use Rattle.cb_scan.specs.declared.facts.Kind.TheVariants.{Function}
use Rattle.cb_scan.specs.declared.facts.Use.{Use}
use Rattle.cb_scan.specs.declared.lex.piece.Span.{Span}
use Rattle.cb_scan.proofs.InOrder.{facts_in_order}
use Rattle.cb_scan.proofs.FunctionsRise.{all_implied}
use Rattle.cb_scan.proofs.WithinLemmas.{all-append}
use Rattle.cb_index.specs.Scanned.{Scanned, facts_of}
use Rattle.cb_index.specs.Archived.{Archived, name_of, text_at}
use Rattle.cb_index.specs.Files.{AreAscending, count_for}
use Rattle.cb_index.specs.Kinds.{keyer_of}
use Rattle.cb_index.specs.RowOrders.{Placer, call_start, def_rank, def_start, rank_for, rank_of}
use Rattle.cb_index.specs.RowOrders.{row_key}
use Rattle.cb_index.specs.RowOrders.{row_numbers, row_order, row_under, rows_with, start_for}
use Rattle.cb_index.specs.RowOrders.{start_of, use_start}
use Rattle.cb_index.specs.Spreads.{RowsAscend, rows_of_key}
use Rattle.cb_index.specs.declared.entry.Shown.{Shown}
use Rattle.cb_index.specs.declared.entry.FactKind.TheVariants.{Uses, Callees, Callers}
use Rattle.cb_index.specs.declared.entry.IndexKind.{IndexKind}
use Rattle.cb_index.specs.declared.entry.IndexKind.TheVariants.{DefsByName, DefsByTagName, Facts}
use Rattle.cb_index.specs.declared.sorted.Row.{Row}
use Rattle.cb_index.proofs.IndexLemmas.{ordered-append}
use Rattle.cb_index.proofs.RangeItems.{range_next}

less_is : (m n : ℕ) → m < n → nat_cmp m n ≡ Less
less_is m n less = sym (nat_cmp_is m n Less less)

tied : (m n : ℕ) → m ≡ n → nat_cmp m n ≡ Equal
tied m n same = subst (λ k. nat_cmp m k ≡ Equal) same (tied_itself nat_cmp_total m)

tied_texts : (xs ys : List ℕ) → xs ≡ ys → slice_cmp nat_cmp xs ys ≡ Equal
tied_texts xs ys same =
    subst (λ k. slice_cmp nat_cmp xs k ≡ Equal) same (tied_itself nat_list_cmp_total xs)

-- ---- the items of a text go by place
-- an item stands before another, or at one place with no greater rank
abbrev StandsBefore : Placer → Placer → Option Scanned → ℕ → ℕ → Type 0
StandsBefore start rank t i j =
    (start t i < start t j) ⊎ ((start t i ≡ start t j) × (rank t i ≤ rank t j))

module _ {X : Type 0} (R : X → X → Type 0) where
  pub one_at : (x : X) (xs : List X) → AllByRecursion (R x) xs → (k : ℕ) (d : X) → k < length xs
      → R x (get_or xs k d)
  one_at x [] all k d below = absurd (omega (arith, below))
  one_at x (y ∷ ys) all zero d below = all.0
  one_at x (y ∷ ys) all (suc k) d below = one_at x ys all.1 k d (omega (arith, below))

  pub two_at : (xs : List X) → AreOrdered R xs → (i j : ℕ) (d : X) → i < j → j < length xs
      → R (get_or xs i d) (get_or xs j d)
  unfolding AreOrdered
  two_at [] all i j d upward below = absurd (omega (arith, below))
  two_at (x ∷ xs) all i zero d upward below = absurd (omega (arith, upward))
  two_at (x ∷ xs) all zero (suc j) d upward below = one_at x xs all.0 j d (omega (arith, below))
  two_at (x ∷ xs) all (suc i) (suc j) d upward below =
      two_at xs all.1 i j d (omega (arith, upward)) (omega (arith, below))

pub nowhere : Span
nowhere = record { start = 0; end = 0 }

or_same : (m n : ℕ) → m ≤ n → (m < n) ⊎ ((m ≡ n) × (0 ≤ 0))
or_same m n upward =
    ⊎_elim (λ less. inl less) (λ same. inr (omega (arith, same, upward), omega arith))
    (cases_lt m n)

module _ (text : Scanned) (i j : ℕ) (upward : i < j) where
  defs_before : j < length (facts_of text).defs → StandsBefore def_start def_rank (Some text) i j
  defs_before below =
      let defs = (facts_of text).defs in
      let d : Def = record { name = nowhere; kind = Function; line = 0; local = false; tag = None }
      in
      let first : slice_get defs i ≡ Some (get_or defs i d) =
      slice_get-get_or defs i d (omega (arith, upward, below)) in
      let second : slice_get defs j ≡ Some (get_or defs j d) = slice_get-get_or defs j d below in
      let span : Option Def → ℕ = λ o. start_of (option_map (λ (x : Def). x.name) o) in
      let s : def_start (Some text) i ≡ (get_or defs i d).name.start = ap span first in
      let t : def_start (Some text) j ≡ (get_or defs j d).name.start = ap span second in
      let q : def_rank (Some text) i ≡ kind_rank (get_or defs i d).kind = ap rank_of first in
      let r : def_rank (Some text) j ≡ kind_rank (get_or defs j d).kind = ap rank_of second in
      ⊎_elim
      (λ less. inl (omega (arith, s, t, less)))
      (λ same. inr (s ∙ same.0 ∙ sym t, omega (arith, q, r, same.1)))
      (two_at IsDefBefore defs (facts_in_order text.profile text.bytes).defs i j d upward below)

  uses_before : j < length (facts_of text).uses
      → StandsBefore use_start (rank_for (Facts Uses)) (Some text) i j
  uses_before below =
      let uses = (facts_of text).uses in
      let d : Use = record { name = nowhere; line = 0; scope = None } in
      let span : Option Use → ℕ = λ o. start_of (option_map (λ (x : Use). x.name) o) in
      let s : use_start (Some text) i ≡ (get_or uses i d).name.start =
      ap span (slice_get-get_or uses i d (omega (arith, upward, below))) in
      let t : use_start (Some text) j ≡ (get_or uses j d).name.start =
      ap span (slice_get-get_or uses j d below) in
      let up =
      two_at (λ (u v : Use). u.name.start ≤ v.name.start) uses
      (facts_in_order text.profile text.bytes).uses i j d upward below in
      or_same (use_start (Some text) i) (use_start (Some text) j) (omega (arith, s, t, up))

  calls_before : j < length (facts_of text).calls
      → StandsBefore call_start (rank_for (Facts Callees)) (Some text) i j
  calls_before below =
      let calls = (facts_of text).calls in
      let d : Call = record { callee = nowhere; line = 0; caller = nowhere } in
      let span : Option Call → ℕ = λ o. start_of (option_map (λ (x : Call). x.callee) o) in
      let s : call_start (Some text) i ≡ (get_or calls i d).callee.start =
      ap span (slice_get-get_or calls i d (omega (arith, upward, below))) in
      let t : call_start (Some text) j ≡ (get_or calls j d).callee.start =
      ap span (slice_get-get_or calls j d below) in
      let up =
      two_at (λ (u v : Call). u.callee.start ≤ v.callee.start) calls
      (facts_in_order text.profile text.bytes).calls i j d upward below in
      or_same (call_start (Some text) i) (call_start (Some text) j) (omega (arith, s, t, up))

items_before : (kind : IndexKind) (t : Option Scanned) (i j : ℕ) → i < j → j < count_for kind t
    → StandsBefore (start_for kind) (rank_for kind) t i j
items_before DefsByName None i j upward below = absurd (omega (arith, below))
items_before DefsByName (Some text) i j upward below = defs_before text i j upward below
items_before DefsByTagName None i j upward below = absurd (omega (arith, below))
items_before DefsByTagName (Some text) i j upward below = defs_before text i j upward below
items_before (Facts Uses) None i j upward below = absurd (omega (arith, below))
items_before (Facts Uses) (Some text) i j upward below = uses_before text i j upward below
items_before (Facts Callees) None i j upward below = absurd (omega (arith, below))
items_before (Facts Callees) (Some text) i j upward below = calls_before text i j upward below
items_before (Facts Callers) None i j upward below = absurd (omega (arith, below))
items_before (Facts Callers) (Some text) i j upward below = calls_before text i j upward below

-- ---- rows of one key
module _ (kind : IndexKind) (a : Archived) (key : List ℕ) where
  abbrev Follows : Row → Row → Type 0
  Follows r s = row_order kind a r s ≡ Less

  abbrev Has : Row → Type 0
  Has r = row_key (keyer_of kind) a r ≡ key

  abbrev numbers_cmp : Row → Row → Ordering
  numbers_cmp r s =
      slice_cmp nat_cmp (row_numbers (start_for kind) (rank_for kind) a r)
      (row_numbers (start_for kind) (rank_for kind) a s)

  by_file : (r s : Row) → Has r → Has s
      → slice_cmp nat_cmp (name_of a r.name) (name_of a s.name) ≡ Less → Follows r s
  by_file r s has_r has_s less =
      let keys =
      tied_texts (row_key (keyer_of kind) a r) (row_key (keyer_of kind) a s) (has_r ∙ sym has_s) in
      λ i. ordering_then (keys i) (ordering_then (less i) (numbers_cmp r s))

  -- in one file
  by_item : (s : Shown) (i j : ℕ) → Has (row_under s i) → Has (row_under s j) → i < j
      → StandsBefore (start_for kind) (rank_for kind) (text_at a s.version) i j
      → Follows (row_under s i) (row_under s j)
  by_item s i j has_i has_j upward stands =
      let t = text_at a s.version in
      let keys =
      tied_texts (row_key (keyer_of kind) a (row_under s i))
      (row_key (keyer_of kind) a (row_under s j)) (has_i ∙ sym has_j) in
      let names = tied_itself nat_list_cmp_total (name_of a s.name) in
      let place_i = start_for kind t i in
      let place_j = start_for kind t j in
      let rank_i = rank_for kind t i in
      let rank_j = rank_for kind t j in
      let own : slice_cmp nat_cmp (s.name ∷ s.version ∷ i ∷ []) (s.name ∷ s.version ∷ j ∷ [])
      ≡ Less =
      (λ k. ordering_then (tied_itself nat_cmp_total s.name k)
      (ordering_then (tied_itself nat_cmp_total s.version k)
      (ordering_then (less_is i j upward k) Equal))) in
      let rest = slice_cmp nat_cmp (s.name ∷ s.version ∷ i ∷ []) (s.name ∷ s.version ∷ j ∷ []) in
      let ranks : rank_i ≤ rank_j → ordering_then (nat_cmp rank_i rank_j) rest ≡ Less =
      λ up. ⊎_elim
      (λ less. ap (λ o. ordering_then o rest) (less_is rank_i rank_j less))
      (λ same. λ k. ordering_then (tied rank_i rank_j (omega (arith, same, up)) k) (own k))
      (cases_lt rank_i rank_j) in
      let all : slice_cmp nat_cmp (place_i ∷ rank_i ∷ s.name ∷ s.version ∷ i ∷ [])
      (place_j ∷ rank_j ∷ s.name ∷ s.version ∷ j ∷ []) ≡ Less =
      ⊎_elim
      (λ less. ap (λ o. ordering_then o (ordering_then (nat_cmp rank_i rank_j) rest))
      (less_is place_i place_j less))
      (λ same. λ k. ordering_then (tied place_i place_j same.0 k) (ranks same.1 k))
      stands in
      λ k. ordering_then (keys k) (ordering_then (names k) (all k))

  module _ (s : Shown) where
    abbrev has : ℕ → Bool
    has item = bytes_eq key (row_key (keyer_of kind) a (row_under s item))

    abbrev count : ℕ
    count = count_for kind (text_at a s.version)

    abbrev rows_from : ℕ → ℕ → List Row
    rows_from k m = map (row_under s) (filter has (range_with_len k m))

    has_it : (item : ℕ) → has item ≡ true → Has (row_under s item)
    has_it item is =
        sym ((bytes_eq-Decides key (row_key (keyer_of kind) a (row_under s item))).0 is)

    module _ (P : Row → Type 0) (n : ℕ)
        (holds : (item : ℕ) → n ≤ item → item < count → has item ≡ true
        → P (row_under s item)) where
      rows_hold : (m k : ℕ) → n ≤ k → k + m ≤ count → AllByRecursion P (rows_from k m)
      rows_hold zero k low within = tt
      rows_hold (suc m) k low within =
          subst (λ l. AllByRecursion P (map (row_under s) (filter has l))) (sym (range_next k m))
          (by_test (has k) refl (rows_hold m (suc k) (omega (arith, low)) (omega (arith, within))))
        where
          by_test : (b : Bool) → has k ≡ b → AllByRecursion P (rows_from (suc k) m)
              → AllByRecursion P (map (row_under s) (cond b
              (k ∷ filter has (range_with_len (suc k) m)) (filter has (range_with_len (suc k) m))))
          by_test true is later = (holds k low (omega (arith, within)) is, later)
          by_test false is later = later

    file_ordered : (m k : ℕ) → k + m ≤ count → AreOrdered Follows (rows_from k m)
    unfolding AreOrdered
    file_ordered zero k within = tt
    file_ordered (suc m) k within =
        subst (λ l. AreOrdered Follows (map (row_under s) (filter has l))) (sym (range_next k m))
        (by_test (has k) refl (file_ordered m (suc k) (omega (arith, within))))
      where
        by_test : (b : Bool) → has k ≡ b → AreOrdered Follows (rows_from (suc k) m)
            → AreOrdered Follows (map (row_under s) (cond b
            (k ∷ filter has (range_with_len (suc k) m)) (filter has (range_with_len (suc k) m))))
        by_test true is later = (
          rows_hold (Follows (row_under s k)) (suc k)
              (λ item low below here.
              by_item s k item (has_it k is) (has_it item here) (omega (arith, low))
              (items_before kind (text_at a s.version) k item (omega (arith, low)) below))
              m (suc k) (omega arith) (omega (arith, within)),
          later,
        )
        by_test false is later = later

    -- each is one of this file that has the key
    all_under : AllByRecursion (λ (r : Row). (r.name ≡ s.name) × Has r)
        (rows_with (keyer_of kind) (count_for kind) a key s)
    all_under =
        rows_hold (λ (r : Row). (r.name ≡ s.name) × Has r) 0
        (λ item low below is. (refl, has_it item is)) count 0 (omega arith) (omega arith)

  module _ (r : Row) (has_r : Has r) where
    later_rows : (s : Shown) → r.name ≡ s.name → (shown : List Shown)
        → AllByRecursion
        (λ (t : Shown). slice_cmp nat_cmp (name_of a s.name) (name_of a t.name) ≡ Less) shown
        → AllByRecursion (Follows r) (rows_of_key kind a key shown)
    later_rows s same [] up = tt
    later_rows s same (t ∷ shown) up =
        all-append (Follows r) (rows_with (keyer_of kind) (count_for kind) a key t)
        (rows_of_key kind a key shown)
        (all_implied (λ (q : Row). (q.name ≡ t.name) × Has q) (Follows r)
        (λ q of. by_file r q has_r of.1
        ((λ i. slice_cmp nat_cmp (name_of a (same i)) (name_of a (of.0 i))) ∙ up.0))
        (rows_with (keyer_of kind) (count_for kind) a key t) (all_under t))
        (later_rows s same shown up.1)

  rows_ordered : (shown : List Shown) → AreAscending a shown
      → AreOrdered Follows (rows_of_key kind a key shown)
  unfolding AreOrdered
  rows_ordered [] up = tt
  rows_ordered (s ∷ shown) up =
      ordered-append Follows (rows_with (keyer_of kind) (count_for kind) a key s)
      (rows_of_key kind a key shown)
      (file_ordered s (count_for kind (text_at a s.version)) 0 (omega arith))
      (rows_ordered shown up.1)
      (all_implied (λ (r : Row). (r.name ≡ s.name) × Has r)
      (λ r. AllByRecursion (Follows r) (rows_of_key kind a key shown))
      (λ r of. later_rows r of.1 s of.0 shown up.0)
      (rows_with (keyer_of kind) (count_for kind) a key s) (all_under s))

pub ascend : (kind : IndexKind) → RowsAscend kind
ascend kind a shown key up = rows_ordered kind a key shown up
