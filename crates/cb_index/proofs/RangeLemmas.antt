-- The part of a sorted list that has a key.
use Rattle.std.proofs.Common.{◌≡◌, ◌∙◌, ◌≤◌, ◌<◌, ℕ, zero, suc, Bool, true, false, List, [], ◌∷◌}
use Rattle.std.proofs.Common.{◌++◌, refl, sym, ap, subst, length, take, drop, filter, get_or, arith}
use Rattle.std.proofs.lemmas.Bool.{true≢false, false≢true}
use Rattle.std.proofs.lemmas.Bool.Decides.{nat_tests}
use Rattle.std.proofs.lemmas.Cmp.{nat_cmp_total, nat_list_cmp_total, on_total, then_total, upto}
use Rattle.std.proofs.lemmas.Map.Text.{is_eq-slice_cmp}
use Rattle.std.specs.Prelude.{cond, not, nat_eq, ◌&&◌}
use Rattle.std.specs.Borrow.{Bor}
use Rattle.std.specs.Cmp.{IsTotalOrder}
use Rattle.std.specs.Cmp.Lexicographic.{slice_cmp}
use Rattle.std.specs.List.{AllByRecursion}
use Rattle.std.specs.List.Sorted.{IsPartitionedBy}
use Rattle.std.specs.Ordering.{is_eq, is_gt, is_lt, nat_cmp, on, ordering_reverse, ordering_then}
use Rattle.std.specs.Ordering.{then_cmp}
use Rattle.std.specs.declared.cmp.Ordering.{Ordering}
use Rattle.std.specs.declared.cmp.Ordering.TheVariants.{Less, Equal, Greater}
use Rattle.cb_scan.specs.Order.{goes_first, in_order}
use Rattle.cb_scan.proofs.KeyOrder.{then_assoc}
use Rattle.cb_scan.proofs.OrderLemmas.{Sorted, first_trans, goes_itself, in_order_sorted}
use Rattle.cb_index.specs.Blocks.{AreParted}
use Rattle.cb_index.specs.Archived.{Archived}
use Rattle.cb_index.specs.Entries.{Keyer, file_key, has_key, has_key_from, key_cmp, key_of}
use Rattle.cb_index.specs.Entries.{sort_key}
use Rattle.cb_index.specs.steps.Bounds.{is_ahead}
use Rattle.cb_index.specs.declared.entry.Posting.{Posting}
use Rattle.cb_index.specs.declared.order.Side.{Side}
use Rattle.cb_index.specs.declared.order.Side.TheVariants.{Behind, Before, After}
use Rattle.cb_index.proofs.EntryLemmas.{bytes_cmp, sort_exact}
use Rattle.cb_index.proofs.SortedLemmas.{inserted_is, parts_sorted, some_ahead, taken_is}

-- ---- prefix and key, as one order
abbrev pub Headed : Type 0
Headed = ℕ × List ℕ

abbrev pub heads : Headed → Headed → Ordering
heads = then_cmp (on (λ (h : Headed). h.0) nat_cmp) (on (λ (h : Headed). h.1) (slice_cmp nat_cmp))

pub heads_total : IsTotalOrder heads
heads_total =
    then_total (on_total (λ (h : Headed). h.0) nat_cmp_total)
    (on_total (λ (h : Headed). h.1) nat_list_cmp_total)

first_not_gt : (o p : Ordering) → not (is_gt (ordering_then o p)) ≡ true → is_gt o ≡ false
first_not_gt Less p is = refl
first_not_gt Equal p is = refl
first_not_gt Greater p is = absurd (false≢true is)

not_true : (b : Bool) → not b ≡ true → b ≡ false
not_true true is = absurd (false≢true is)
not_true false is = refl

not_false : (b : Bool) → b ≡ false → not b ≡ true
not_false b is = ap not is

reversed : (o : Ordering) → is_lt (ordering_reverse o) ≡ is_gt o
reversed Less = refl
reversed Equal = refl
reversed Greater = refl

turned_lt : (x y : Headed) → is_lt (heads x y) ≡ is_gt (heads y x)
turned_lt x y = ap is_lt (heads_total.antisymm x y) ∙ reversed (heads y x)

module _ (keyer : Keyer) (a : Archived) where
  -- what goes first has no greater prefix and key
  head_first : (e f : Posting) → goes_first (sort_key keyer a) e f ≡ true
      → is_gt (heads (e.prefix, (key_of keyer a e)) (f.prefix, (key_of keyer a f))) ≡ false
  unfolding sort_key
  head_first e f is =
      let split : slice_cmp nat_cmp (sort_key keyer a e) (sort_key keyer a f)
      ≡ ordering_then (heads (e.prefix, (key_of keyer a e)) (f.prefix, (key_of keyer a f)))
      (slice_cmp nat_cmp (file_key a e) (file_key a f)) =
      ap (ordering_then (nat_cmp e.prefix f.prefix)) (sym (bytes_cmp keyer a e f))
      ∙ sym (then_assoc (nat_cmp e.prefix f.prefix)
      (slice_cmp nat_cmp (key_of keyer a e) (key_of keyer a f))
      (slice_cmp nat_cmp (file_key a e) (file_key a f))) in
      first_not_gt _ _ (ap (λ o. not (is_gt o)) (sym split) ∙ is)

  -- in a sorted list what comes earlier goes first
  all_at : {X : Type 0} (P : X → Type 0) (xs : List X) → AllByRecursion P xs → (k : ℕ) (d : X)
      → k < length xs → P (get_or xs k d)
  all_at P [] all k d below = absurd (omega (arith, below))
  all_at P (x ∷ xs) all zero d below = all.0
  all_at P (x ∷ xs) all (suc k) d below = all_at P xs all.1 k d (omega (arith, below))

  sorted_far : (es : List Posting) → Sorted (sort_key keyer a) es → (i j : ℕ) (d : Posting)
      → i ≤ j → j < length es
      → goes_first (sort_key keyer a) (get_or es i d) (get_or es j d) ≡ true
  sorted_far [] s i j d upward below = absurd (omega (arith, below))
  sorted_far (e ∷ es) s zero zero d upward below = goes_itself (sort_key keyer a) e
  sorted_far (e ∷ es) s zero (suc j) d upward below =
      all_at (λ f. goes_first (sort_key keyer a) e f ≡ true) es s.0 j d (omega (arith, below))
  sorted_far (e ∷ es) s (suc i) zero d upward below = absurd (omega (arith, upward))
  sorted_far (e ∷ es) s (suc i) (suc j) d upward below =
      sorted_far es s.1 i j d (omega (arith, upward)) (omega (arith, below))

  module _ (prefix : ℕ) (key : List ℕ) where
    -- where an entry is below the key, so are those before it
    pub below_parted : (es : List Posting) → Sorted (sort_key keyer a) es
        → IsPartitionedBy (λ e. is_gt (key_cmp keyer a prefix key e)) es
    below_parted es s i j d upward below is =
        let e = get_or es i d in
        let f = get_or es j d in
        let first = head_first e f (sorted_far es s i j d upward below) in
        by_test (is_gt (key_cmp keyer a prefix key e)) refl first
      where
        by_test : (b : Bool) → is_gt (key_cmp keyer a prefix key (get_or es i d)) ≡ b
            → is_gt (heads ((get_or es i d).prefix, (key_of keyer a (get_or es i d)))
            ((get_or es j d).prefix, (key_of keyer a (get_or es j d)))) ≡ false
            → is_gt (key_cmp keyer a prefix key (get_or es i d)) ≡ true
        by_test true e first = e
        by_test false e first = absurd (true≢false (sym is ∙ upto heads_total (prefix, key)
            ((get_or es i d).prefix, (key_of keyer a (get_or es i d)))
            ((get_or es j d).prefix, (key_of keyer a (get_or es j d))) e first))

    -- where an entry is not above the key, those before it are not
    pub upto_parted : (es : List Posting) → Sorted (sort_key keyer a) es
        → IsPartitionedBy (λ e. not (is_lt (key_cmp keyer a prefix key e))) es
    upto_parted es s i j d upward below is =
        let e = get_or es i d in
        let f = get_or es j d in
        let first = head_first e f (sorted_far es s i j d upward below) in
        let reaches : is_gt (heads (f.prefix, (key_of keyer a f)) (prefix, key)) ≡ false =
        sym (turned_lt (prefix, key) (f.prefix, (key_of keyer a f))) ∙ not_true _ is in
        not_false _ (turned_lt (prefix, key) (e.prefix, (key_of keyer a e))
        ∙ upto heads_total (e.prefix, (key_of keyer a e)) (f.prefix, (key_of keyer a f))
        (prefix, key) first reaches)

    -- the three tests
    both_same : (o p : Ordering) → is_eq (ordering_then o p) ≡ (is_eq o && is_eq p)
    both_same Less p = refl
    both_same Equal p = refl
    both_same Greater p = refl

    nat_same : (x y : ℕ) → is_eq (nat_cmp x y) ≡ nat_eq x y
    nat_same x y = grind (arith, nat_tests)

    tested : (e : Posting) → has_key keyer a prefix key e ≡ is_eq (key_cmp keyer a prefix key e)
    tested e =
        (λ i. sym (nat_same prefix e.prefix) i && sym (is_eq-slice_cmp key (key_of keyer a e)) i)
        ∙ sym (both_same (nat_cmp prefix e.prefix) (slice_cmp nat_cmp key (key_of keyer a e)))

    pub has_not_above : (e : Posting) → is_gt (key_cmp keyer a prefix key e) ≡ true
        → has_key keyer a prefix key e ≡ false
    has_not_above e is = tested e ∙ no_equal (key_cmp keyer a prefix key e) is
      where
        no_equal : (o : Ordering) → is_gt o ≡ true → is_eq o ≡ false
        no_equal Less is = refl
        no_equal Equal is = absurd (false≢true is)
        no_equal Greater is = refl

    pub has_not_below : (e : Posting) → not (is_lt (key_cmp keyer a prefix key e)) ≡ false
        → has_key keyer a prefix key e ≡ false
    has_not_below e is = tested e ∙ no_equal (key_cmp keyer a prefix key e) is
      where
        no_equal : (o : Ordering) → not (is_lt o) ≡ false → is_eq o ≡ false
        no_equal Less is = refl
        no_equal Equal is = absurd (true≢false is)
        no_equal Greater is = refl

    pub has_between : (e : Posting) → is_gt (key_cmp keyer a prefix key e) ≡ false
        → not (is_lt (key_cmp keyer a prefix key e)) ≡ true → has_key keyer a prefix key e ≡ true
    has_between e low high = tested e ∙ equal (key_cmp keyer a prefix key e) low high
      where
        equal : (o : Ordering) → is_gt o ≡ false → not (is_lt o) ≡ true → is_eq o ≡ true
        equal Less low high = absurd (false≢true high)
        equal Equal low high = refl
        equal Greater low high = absurd (true≢false low)

-- a list that is the list in order is sorted
pub sorted_from : (keyer : Keyer) (a : Archived) (es : List Posting)
    → es ≡ in_order (sort_key keyer a) es → Sorted (sort_key keyer a) es
sorted_from keyer a es is =
    subst (Sorted (sort_key keyer a)) (sym is) (in_order_sorted (sort_key keyer a) es)

-- ---- what stands ahead of a bound
module _ (keyer : Keyer) (a : Archived) where
  ahead_first : (bound : Side) (e f : Posting) → goes_first (sort_key keyer a) e f ≡ true
      → is_ahead keyer a bound f ≡ true
      → is_ahead keyer a bound e ≡ true
  unfolding is_ahead
  ahead_first (Behind one) e f first is =
      first_trans (sort_key keyer a e) (sort_key keyer a f) (sort_key keyer a one) first is
  ahead_first (Before prefix key) e f first is =
      below_parted keyer a prefix key.now (e ∷ f ∷ []) ((first, tt), (tt, tt)) 0 1 e
      (omega arith) (omega arith) is
  ahead_first (After prefix key) e f first is =
      upto_parted keyer a prefix key.now (e ∷ f ∷ []) ((first, tt), (tt, tt)) 0 1 e
      (omega arith) (omega arith) is

  pub ahead_parts : (bound : Side) (es : List Posting) → es ≡ in_order (sort_key keyer a) es
      → AreParted (is_ahead keyer a bound) es
  ahead_parts bound es is =
      parts_sorted (is_ahead keyer a bound) (sort_key keyer a) (ahead_first bound) es
      (sorted_from keyer a es is)

module _ (keyer : Keyer) (a : Archived) (prefix : ℕ) (key : List ℕ) where
  none_has : (es : List Posting)
      → AllByRecursion (λ e. not (is_lt (key_cmp keyer a prefix key e)) ≡ false) es
      → [] ≡ filter (has_key keyer a prefix key) es
  none_has [] high = refl
  none_has (e ∷ es) high =
      none_has es high.1
      ∙ sym (ap (λ b.
      cond b (e ∷ filter (has_key keyer a prefix key) es) (filter (has_key keyer a prefix key) es))
      (has_not_below keyer a prefix key e high.0))

  front_has : (n : ℕ) (es : List Posting)
      → AllByRecursion (λ e. is_gt (key_cmp keyer a prefix key e) ≡ false) es
      → AllByRecursion (λ e. not (is_lt (key_cmp keyer a prefix key e)) ≡ true) (take n es)
      → AllByRecursion (λ e. not (is_lt (key_cmp keyer a prefix key e)) ≡ false) (drop n es)
      → take n es ≡ filter (has_key keyer a prefix key) es
  front_has zero es low mid high = none_has es high
  front_has (suc n) [] low mid high = refl
  front_has (suc n) (e ∷ es) low mid high =
      ap (λ l. e ∷ l) (front_has n es low.1 mid.1 high)
      ∙ sym (ap (λ b.
      cond b (e ∷ filter (has_key keyer a prefix key) es) (filter (has_key keyer a prefix key) es))
      (has_between keyer a prefix key e low.0 mid.0))

  -- what lies between the two places has the key, and nothing else does
  pub between_is : (m n : ℕ) (es : List Posting)
      → AllByRecursion (λ e. is_gt (key_cmp keyer a prefix key e) ≡ true) (take m es)
      → AllByRecursion (λ e. is_gt (key_cmp keyer a prefix key e) ≡ false) (drop m es)
      → AllByRecursion (λ e. not (is_lt (key_cmp keyer a prefix key e)) ≡ true) (take n es)
      → AllByRecursion (λ e. not (is_lt (key_cmp keyer a prefix key e)) ≡ false) (drop n es)
      → drop m (take n es) ≡ filter (has_key keyer a prefix key) es
  between_is zero n es above low mid high = front_has n es low mid high
  between_is (suc m) zero es above low mid high = none_has es high
  between_is (suc m) (suc n) [] above low mid high = refl
  between_is (suc m) (suc n) (e ∷ es) above low mid high =
      between_is m n es above.1 low mid.1 high
      ∙ sym (ap (λ b.
      cond b (e ∷ filter (has_key keyer a prefix key) es) (filter (has_key keyer a prefix key) es))
      (has_not_above keyer a prefix key e above.0))

-- ---- an entry comes or goes where the place behind it is
module _ (keyer : Keyer) (a : Archived) (one : Posting) where
  pub behind_inserted : (n : ℕ) (es : List Posting) → es ≡ in_order (sort_key keyer a) es
      → AllByRecursion (λ e. is_ahead keyer a (Behind one) e ≡ true) (take n es)
      → AllByRecursion (λ e. is_ahead keyer a (Behind one) e ≡ false) (drop n es)
      → take n es ++ one ∷ drop n es ≡ in_order (sort_key keyer a) (es ++ one ∷ [])
  unfolding is_ahead
  behind_inserted n es order ahead behind =
      inserted_is (sort_key keyer a) (sort_exact keyer a) n es one
      (sorted_from keyer a es order) ahead behind

  pub behind_taken : (n : ℕ) (rest es : List Posting)
      → es ≡ in_order (sort_key keyer a) (one ∷ rest)
      → n < length es
      → AllByRecursion (λ e. is_ahead keyer a (Behind one) e ≡ true) (take (suc n) es)
      → AllByRecursion (λ e. is_ahead keyer a (Behind one) e ≡ false) (drop (suc n) es)
      → take n es ++ drop (suc n) es ≡ in_order (sort_key keyer a) rest
  unfolding is_ahead
  behind_taken n rest es is below ahead behind =
      taken_is (sort_key keyer a) (sort_exact keyer a) n rest es one one is below ahead behind

  pub behind_some : (rest es : List Posting) → es ≡ in_order (sort_key keyer a) (one ∷ rest)
      → AllByRecursion (λ e. is_ahead keyer a (Behind one) e ≡ false) es → true ≡ false
  unfolding is_ahead
  behind_some rest es is none = some_ahead (sort_key keyer a) rest es one is none

-- ---- the entries of a key lie between its bounds
module _ (keyer : Keyer) (a : Archived) (prefix : ℕ) (key : Bor (List ℕ)) where
  pub key_between : (m n : ℕ) (es : List Posting)
      → AllByRecursion (λ e. is_ahead keyer a (Before prefix key) e ≡ true) (take m es)
      → AllByRecursion (λ e. is_ahead keyer a (Before prefix key) e ≡ false) (drop m es)
      → AllByRecursion (λ e. is_ahead keyer a (After prefix key) e ≡ true) (take n es)
      → AllByRecursion (λ e. is_ahead keyer a (After prefix key) e ≡ false) (drop n es)
      → drop m (take n es) ≡ filter (has_key keyer a prefix key.now) es
  unfolding is_ahead
  key_between m n es above low mid high =
      between_is keyer a prefix key.now m n es above low mid high

-- ---- the entries whose keys are not less stand behind the bound before the key
module _ (keyer : Keyer) (a : Archived) (prefix : ℕ) (key : List ℕ) where
  all_from : (es : List Posting)
      → AllByRecursion (λ e. is_gt (key_cmp keyer a prefix key e) ≡ false) es
      → es ≡ filter (has_key_from keyer a prefix key) es
  all_from [] low = refl
  all_from (e ∷ es) low =
      ap (λ l. e ∷ l) (all_from es low.1)
      ∙ sym (ap (λ b. cond (not b) (e ∷ filter (has_key_from keyer a prefix key) es)
      (filter (has_key_from keyer a prefix key) es)) low.0)

  pub behind_is : (n : ℕ) (es : List Posting)
      → AllByRecursion (λ e. is_gt (key_cmp keyer a prefix key e) ≡ true) (take n es)
      → AllByRecursion (λ e. is_gt (key_cmp keyer a prefix key e) ≡ false) (drop n es)
      → drop n es ≡ filter (has_key_from keyer a prefix key) es
  behind_is zero es above low = all_from es low
  behind_is (suc n) [] above low = refl
  behind_is (suc n) (e ∷ es) above low =
      behind_is n es above.1 low
      ∙ sym (ap (λ b. cond (not b) (e ∷ filter (has_key_from keyer a prefix key) es)
      (filter (has_key_from keyer a prefix key) es)) above.0)

module _ (keyer : Keyer) (a : Archived) (prefix : ℕ) (key : Bor (List ℕ)) where
  pub key_behind : (n : ℕ) (es : List Posting)
      → AllByRecursion (λ e. is_ahead keyer a (Before prefix key) e ≡ true) (take n es)
      → AllByRecursion (λ e. is_ahead keyer a (Before prefix key) e ≡ false) (drop n es)
      → drop n es ≡ filter (has_key_from keyer a prefix key.now) es
  unfolding is_ahead
  key_behind n es above low = behind_is keyer a prefix key.now n es above low
