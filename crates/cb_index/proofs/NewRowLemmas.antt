-- A key has as many rows as items that are no repeats.
use Rattle.std.proofs.Common.{◌≡◌, ◌∙◌, ◌-◌, ◌<◌, ◌≤◌, ◌^◌, ℕ, zero, suc, Bool, true, false, not}
use Rattle.std.proofs.Common.{◌&&◌, ◌||◌, List, [], ◌∷◌, ◌++◌, refl, sym, ap, length, map, filter}
use Rattle.std.proofs.Common.{arith}
use Rattle.std.proofs.lemmas.Bool.{false_from_ne_true, true≢false}
use Rattle.std.proofs.lemmas.List.{length-map}
use Rattle.std.proofs.lemmas.List.Filters.{length-filter_both}
use Rattle.std.proofs.lemmas.List.Folds.{list_any-append}
use Rattle.std.proofs.lemmas.List.FromFn.{length-range_with_len}
use Rattle.std.proofs.lemmas.Slice.Eq.{bytes_eq-Decides}
use Rattle.std.specs.Prelude.{cond}
use Rattle.std.specs.List.{range_with_len}
use Rattle.std.specs.Str.{bytes_eq}
use Rattle.cb_index.specs.Scanned.{Scanned}
use Rattle.cb_index.specs.Counts.{key_facts, row_count, same_row, unlike}
use Rattle.cb_index.specs.Items.{have_one_key, is_first, item_count, item_key, later}
use Rattle.cb_index.specs.Repeats.{any_below, have_one_row, is_repeat}
use Rattle.cb_index.specs.Rows.{Fact}
use Rattle.cb_index.specs.steps.Counting.{fresh, has_row}
use Rattle.cb_index.specs.steps.Found.{fact_at}
use Rattle.cb_index.specs.steps.Spread.{items_from}
use Rattle.cb_index.specs.declared.entry.FactKind.{FactKind}
use Rattle.cb_index.proofs.AnyFileLemmas.{same_anywhere}
use Rattle.cb_index.proofs.FirstLemmas.{no_first}
use Rattle.cb_index.proofs.RangeItems.{range_next}
use Rattle.cb_index.proofs.RepeatLemmas.{and_false}

-- ---- lists
module _ {X : Type 0} (p : X → Bool) where
  -- what is kept of what is kept
  twice : (q s : X → Bool) → ((x : X) → s x ≡ (p x && q x)) → (xs : List X)
      → filter s xs ≡ filter p (filter q xs)
  twice q s both [] = refl
  twice q s both (x ∷ xs) =
      let later = twice q s both xs in
      ap (λ b. cond b (x ∷ filter s xs) (filter s xs)) (both x)
      ∙ (elim (q x) as (λ b. cond (p x && b) (x ∷ filter s xs) (filter s xs)
      ≡ filter p (cond b (x ∷ filter q xs) (filter q xs))) [
        | true ↦ elim (p x) as (λ a. cond (a && true) (x ∷ filter s xs) (filter s xs)
            ≡ cond a (x ∷ filter p (filter q xs)) (filter p (filter q xs))) [
              | true ↦ ap (λ l. x ∷ l) later
              | false ↦ later
            ]
        | false ↦ elim (p x) as
            (λ a. cond (a && false) (x ∷ filter s xs) (filter s xs) ≡ filter p (filter q xs)) [
              | true ↦ later
              | false ↦ later
            ]
      ])

-- ---- the rows that are those of none before
module _ (sort : FactKind) where
  abbrev unseen : List Fact → Fact → Bool
  unseen seen f = not (has_row sort seen f)

  unseen_more : (seen : List Fact) (f g : Fact)
      → unseen (seen ++ f ∷ []) g ≡ (unseen seen g && not (same_row sort f g))
  unseen_more seen f g =
      ap not (list_any-append (λ h. same_row sort h g) seen (f ∷ []))
      ∙ by_cases (has_row sort seen g) (same_row sort f g)
    where
      by_cases : (a b : Bool) → not (a || (b || false)) ≡ (not a && not b)
      by_cases true b = refl
      by_cases false true = refl
      by_cases false false = refl

  fresh_unseen : (seen fs : List Fact) → fresh sort seen fs ≡ filter (unseen seen) (unlike sort fs)
  unfolding fresh unlike
  fresh_unseen seen [] = refl
  fresh_unseen seen (f ∷ fs) =
      ap (λ l. cond (has_row sort seen f) l (f ∷ l))
      (fresh_unseen (seen ++ f ∷ []) fs
      ∙ twice (unseen seen) (λ g. not (same_row sort f g)) (unseen (seen ++ f ∷ []))
      (unseen_more seen f) (unlike sort fs))
      ∙ by_cases (has_row sort seen f)
      (filter (unseen seen) (filter (λ g. not (same_row sort f g)) (unlike sort fs)))
    where
      by_cases : (b : Bool) (gs : List Fact) → cond b gs (f ∷ gs) ≡ cond (not b) (f ∷ gs) gs
      by_cases true gs = refl
      by_cases false gs = refl

  all_unseen : (fs : List Fact) → filter (unseen []) fs ≡ fs
  all_unseen [] = refl
  all_unseen (f ∷ fs) = ap (λ l. f ∷ l) (all_unseen fs)

  -- before any was seen
  fresh_all : (fs : List Fact) → fresh sort [] fs ≡ unlike sort fs
  fresh_all fs = fresh_unseen [] fs ∙ all_unseen (unlike sort fs)

-- ---- items of one key
none_below : (p : ℕ → Bool) (n : ℕ) → ((k : ℕ) → k < n → p k ≡ false) → false ≡ any_below p n
unfolding any_below
none_below p zero none = refl
none_below p (suc n) none =
    none_below p n (λ k low. none k (omega (arith, low)))
    ∙ sym (ap (λ b. b || any_below p n) (none n (omega arith)))

module _ (file : List ℕ) (sort : FactKind) (text : Scanned) where
  -- all items of one key are few
  pub key_few : (item : ℕ)
      → length (key_facts sort text item) ≤ suc (item_count sort text - suc item)
  unfolding later
  key_few item =
      let has = have_one_key sort text item in
      let behind = range_with_len (suc item) (item_count sort text - suc item) in
      let same = length-map (items_from sort text item) (fact_at sort [] text) in
      let split = length-filter_both has (λ i. not (has i)) (λ i. refl) behind in
      omega (arith, same, split, length-range_with_len (suc item) (item_count sort text - suc item))

  abbrev new : ℕ → Bool
  new i = not (is_repeat sort text i)

  abbrev fact : ℕ → Fact
  fact = fact_at sort file text

  abbrev own : ℕ → Fact
  own = fact_at sort [] text

  module _ (first : ℕ) where
    abbrev has : ℕ → Bool
    has = have_one_key sort text first

    has_self : has first ≡ true
    has_self = (bytes_eq-Decides (item_key sort text first) (item_key sort text first)).1 refl

    has_same : (item k : ℕ) → has item ≡ true → have_one_key sort text item k ≡ has k
    has_same item k is =
        ap (λ key. bytes_eq key (item_key sort text k))
        (sym ((bytes_eq-Decides (item_key sort text first) (item_key sort text item)).0 is))

    -- of an item of the key its row was seen, if that of one below a number is it
    abbrev Known : List Fact → ℕ → Type 0
    Known seen k = (item : ℕ) → has item ≡ true
        → has_row sort seen (fact item) ≡ any_below (have_one_row sort text item) k

    known_other : (seen : List Fact) (k : ℕ) → has k ≡ false → Known seen k → Known seen (suc k)
    unfolding any_below
    known_other seen k isnt known item is =
        let unlike_row : have_one_row sort text item k ≡ false =
        ap (λ b. same_row sort (own k) (own item) && b) (has_same item k is ∙ isnt)
        ∙ and_false (same_row sort (own k) (own item)) in
        known item is ∙ sym (ap (λ b. b || any_below (have_one_row sort text item) k) unlike_row)

    known_more : (seen : List Fact) (k : ℕ) → has k ≡ true → Known seen k
        → Known (seen ++ fact k ∷ []) (suc k)
    unfolding any_below
    known_more seen k here known item is =
        list_any-append (λ g. same_row sort g (fact item)) seen (fact k ∷ [])
        ∙ ap (λ b. b || (same_row sort (fact k) (fact item) || false)) (known item is)
        ∙ ap (λ b. any_below (have_one_row sort text item) k || (b || false))
        (same_anywhere file [] text sort k item)
        ∙ turned (any_below (have_one_row sort text item) k) (same_row sort (own k) (own item))
        ∙ sym (ap (λ b. (same_row sort (own k) (own item) && b)
        || any_below (have_one_row sort text item) k) (has_same item k is ∙ here))
      where
        turned : (a s : Bool) → (a || (s || false)) ≡ ((s && true) || a)
        turned true true = refl
        turned true false = refl
        turned false true = refl
        turned false false = refl

    -- one item, and the others
    one_more : (seen : List Fact) (k : ℕ) → has k ≡ true → Known seen k → (rest : List ℕ)
        → fresh sort (seen ++ fact k ∷ []) (map fact rest) ≡ map fact (filter new rest)
        → fresh sort seen (map fact (k ∷ rest)) ≡ map fact (filter new (k ∷ rest))
    unfolding fresh
    one_more seen k here known rest later =
        let news = fresh sort (seen ++ fact k ∷ []) (map fact rest) in
        ap (λ b. cond b news (fact k ∷ news)) (known k here)
        ∙ (elim (is_repeat sort text k) as (λ b. cond b news (fact k ∷ news)
        ≡ map fact (cond (not b) (k ∷ filter new rest) (filter new rest))) [
          | true ↦ later
          | false ↦ ap (λ l. fact k ∷ l) later
        ])

    fresh_from : (k len : ℕ) (seen : List Fact) → Known seen k
        → fresh sort seen (map fact (filter has (range_with_len k len)))
        ≡ map fact (filter new (filter has (range_with_len k len)))
    unfolding fresh
    fresh_from k zero seen known = refl
    fresh_from k (suc len) seen known =
        let rest = filter has (range_with_len (suc k) len) in
        ap (λ l. fresh sort seen (map fact (filter has l))) (range_next k len)
        ∙ (elim (has k) as (λ b. has k ≡ b → fresh sort seen (map fact (cond b (k ∷ rest) rest))
        ≡ map fact (filter new (cond b (k ∷ rest) rest))) [
          | true ↦ λ here.
              one_more seen k here known rest
              (fresh_from (suc k) len (seen ++ fact k ∷ []) (known_more seen k here known))
          | false ↦ λ isnt. fresh_from (suc k) len seen (known_other seen k isnt known)
        ]) refl
        ∙ sym (ap (λ l. map fact (filter new (filter has l))) (range_next k len))

    none_known : is_first sort text first ≡ true → Known [] first
    none_known is item same =
        none_below (have_one_row sort text item) first
        (λ k below.
        let isnt : has k ≡ false =
        false_from_ne_true (has k)
        (λ had. true≢false (sym is
        ∙ no_first sort text (item_key sort text first) k first below had has_self)) in
        ap (λ b. same_row sort (own k) (own item) && b) (has_same item k same ∙ isnt)
        ∙ and_false (same_row sort (own k) (own item)))

    -- from the first item of a key on
    pub rows_new : is_first sort text first ≡ true
        → unlike sort (map fact (items_from sort text first))
        ≡ map fact (filter new (items_from sort text first))
    unfolding later
    rows_new is =
        let known = none_known is in
        sym (fresh_all sort (map fact (items_from sort text first)))
        ∙ one_more [] first has_self known (later sort text first)
        (fresh_from (suc first) (item_count sort text - suc first) (fact first ∷ [])
        (known_more [] first has_self known))

    pub few_items : item_count sort text < 2 ^ 32 → length (items_from sort text first) < 2 ^ 32
    few_items few =
        let most = key_few first in
        let same = length-map (items_from sort text first) own in
        omega (arith, most, same, few)

pub rows_counted : (sort : FactKind) (text : Scanned) (first : ℕ) → is_first sort text first ≡ true
    → length (filter (λ i. not (is_repeat sort text i)) (items_from sort text first))
    ≡ row_count sort text first
unfolding row_count
rows_counted sort text first is =
    sym (ap length (rows_new [] sort text first is)
    ∙ length-map (filter (λ i. not (is_repeat sort text i)) (items_from sort text first))
    (fact_at sort [] text))
