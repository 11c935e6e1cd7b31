-- The first items of keys, and those behind them.
use Rattle.std.proofs.Common.{◌≡◌, ◌∙◌, ◌+◌, ◌-◌, ◌<◌, ◌≤◌, ℕ, zero, suc, Bool, true, false, not}
use Rattle.std.proofs.Common.{List, [], ◌∷◌, ◌++◌, refl, sym, ap, map, filter, get_or, arith}
use Rattle.std.proofs.Common.{append-nil, ◌⊎◌, inl, inr}
use Rattle.std.proofs.lemmas.Bool.{cases_lt, false≢true, true≢false}
use Rattle.std.proofs.lemmas.Bool.Decides.{Decides-eqb}
use Rattle.std.proofs.lemmas.List.Elements.{All-from_get_or, filter_agree}
use Rattle.std.proofs.lemmas.List.Folds.{list_any_at, list_any_none}
use Rattle.std.proofs.lemmas.List.FromFn.{get_or-range_with_len, length-range_with_len}
use Rattle.std.proofs.lemmas.Slice.Eq.{bytes_eq-Decides}
use Rattle.std.specs.Prelude.{cond, nat_eq, ◌&&◌}
use Rattle.std.specs.List.{flat_map, range_with_len}
use Rattle.std.specs.Str.{bytes_eq}
use Rattle.cb_scan.specs.Keys.{key_prefix}
use Rattle.cb_index.specs.Scanned.{Scanned}
use Rattle.cb_index.specs.Firsts.{listed}
use Rattle.cb_index.specs.Held.{entry_of}
use Rattle.cb_index.specs.Items.{have_one_key, is_first, item_count, item_key, later}
use Rattle.cb_index.specs.declared.entry.Posting.{Posting}
use Rattle.cb_index.specs.declared.entry.Shown.{Shown}
use Rattle.cb_index.specs.declared.entry.FactKind.{FactKind}
use Rattle.cb_index.proofs.RangeItems.{range_next}

-- ---- a prefix and a key
and_same : (b c : Bool) → (c ≡ true → b ≡ true) → (b && c) ≡ c
and_same true c imply = refl
and_same false true imply = absurd (false≢true (imply refl))
and_same false false imply = refl

pub prefix_and_key : (key other : List ℕ)
    → (nat_eq (key_prefix key) (key_prefix other) && bytes_eq key other) ≡ bytes_eq key other
prefix_and_key key other =
    and_same (nat_eq (key_prefix key) (key_prefix other)) (bytes_eq key other)
    (λ is. (Decides-eqb (key_prefix key) (key_prefix other)).1
    (ap key_prefix ((bytes_eq-Decides key other).0 is)))

pub at_number : (len i : ℕ) → i < len → get_or (range_with_len 0 len) i 0 ≡ i
at_number len i below = omega (arith, get_or-range_with_len 0 len i 0 below)

-- ---- items of one key
module _ (sort : FactKind) (text : Scanned) (key : List ℕ) where
  abbrev pub has : ℕ → Bool
  has item = bytes_eq key (item_key sort text item)

  pub key_is : (item : ℕ) → has item ≡ true → key ≡ item_key sort text item
  key_is item is = (bytes_eq-Decides key (item_key sort text item)).0 is

  -- of an item that has the key, the test for its key is that for the key
  pub same_test : (item : ℕ) → has item ≡ true → (other : ℕ)
      → have_one_key sort text item other ≡ has other
  same_test item is other = ap (λ k. bytes_eq k (item_key sort text other)) (sym (key_is item is))

  -- no item before the first one that has the key has it
  pub is_first_of_key : (item : ℕ) → has item ≡ true
      → ((before : ℕ) → before < item → has before ≡ false)
      → is_first sort text item ≡ true
  unfolding is_first
  is_first_of_key item is none =
      ap not (list_any_none (have_one_key sort text item) (range_with_len 0 item)
      (All-from_get_or (λ other. have_one_key sort text item other ≡ false)
      (range_with_len 0 item) 0
      (λ i below.
      let at : i < item = omega (arith, below, length-range_with_len 0 item) in
      let other : get_or (range_with_len 0 item) i 0 ≡ i = at_number item i at in
      ap (have_one_key sort text item) other ∙ same_test item is i ∙ none i at)))

  -- an item behind one that has the key is not the first
  pub no_first : (before item : ℕ) → before < item → has before ≡ true → has item ≡ true
      → is_first sort text item ≡ false
  unfolding is_first
  no_first before item below had is =
      ap not (list_any_at (have_one_key sort text item) (range_with_len 0 item) before 0
      (omega (arith, below, length-range_with_len 0 item))
      (ap (have_one_key sort text item) (at_number item before below)
      ∙ same_test item is before ∙ had))

  -- the items behind one that has the key are those that have it
  pub later_is : (item len : ℕ) → has item ≡ true → suc item + len ≡ item_count sort text
      → later sort text item ≡ filter has (range_with_len (suc item) len)
  unfolding later
  later_is item len is size =
      let rest : item_count sort text - suc item ≡ len = omega (arith, size) in
      ap (λ n. filter (have_one_key sort text item) (range_with_len (suc item) n)) rest
      ∙ filter_agree (have_one_key sort text item) has (same_test item is)
      (range_with_len (suc item) len)

  module _ (takes : Posting → Bool) (s : Shown)
      (tests : (item : ℕ) → takes (entry_of s (listed sort text item)) ≡ has item) where
    abbrev entries_in : List ℕ → List Posting
    entries_in items = map (entry_of s) (map (listed sort text) (filter (is_first sort text) items))

    -- behind an item that has the key no first item has it
    none_behind : (before : ℕ) → has before ≡ true → (n len : ℕ) → before < n
        → filter takes (entries_in (range_with_len n len)) ≡ []
    none_behind before had n zero low = refl
    none_behind before had n (suc len) low =
        ap (λ l. filter takes (entries_in l)) (range_next n len)
        ∙ step (is_first sort text n) (has n) refl refl
        (none_behind before had (suc n) len (omega (arith, low)))
      where
        step : (first here : Bool) → is_first sort text n ≡ first → has n ≡ here
            → filter takes (entries_in (range_with_len (suc n) len)) ≡ []
            → filter takes (map (entry_of s) (map (listed sort text)
            (cond first (n ∷ filter (is_first sort text) (range_with_len (suc n) len))
            (filter (is_first sort text) (range_with_len (suc n) len))))) ≡ []
        step true true is_one has_it rest =
            absurd (true≢false (sym is_one ∙ no_first before n low had has_it))
        step true false is_one has_not rest =
            ap (λ b. cond b (entry_of s (listed sort text n)
            ∷ filter takes (entries_in (range_with_len (suc n) len)))
            (filter takes (entries_in (range_with_len (suc n) len)))) (tests n ∙ has_not) ∙ rest
        step false here is_none has_or_not rest = rest

  -- ---- what the entries of the first items give
  module _ {Y : Type 0} (fact : ℕ → Y) (give : Posting → List Y) (takes : Posting → Bool)
      (s : Shown)
      (gives : (item : ℕ)
      → give (entry_of s (listed sort text item)) ≡ map fact (item ∷ later sort text item))
      (tests : (item : ℕ) → takes (entry_of s (listed sort text item)) ≡ has item) where
    abbrev entries_of_firsts : List ℕ → List Posting
    entries_of_firsts = entries_in takes s tests

    pub firsts_give : (n len : ℕ) → n + len ≡ item_count sort text
        → ((before : ℕ) → before < n → has before ≡ false)
        → flat_map give (filter takes (entries_of_firsts (range_with_len n len)))
        ≡ map fact (filter has (range_with_len n len))
    firsts_give n zero size none = refl
    firsts_give n (suc len) size none =
        ap (λ l. flat_map give (filter takes (entries_of_firsts l))) (range_next n len)
        ∙ step (is_first sort text n) (has n) refl refl
        (λ here. firsts_give (suc n) len (omega (arith, size)) (later_none here))
        ∙ sym (ap (λ l. map fact (filter has l)) (range_next n len))
      where
        rest : List ℕ
        rest = range_with_len (suc n) len

        behind : List Posting
        behind = filter takes (entries_of_firsts rest)

        later_none : has n ≡ false → (before : ℕ) → before < suc n → has before ≡ false
        later_none here before low = either (cases_lt before n)
          where
            either : (before < n) ⊎ (n ≤ before) → has before ≡ false
            either (inl below) = none before below
            either (inr above) = ap has (omega (arith, low, above)) ∙ here

        step : (first here : Bool) → is_first sort text n ≡ first → has n ≡ here
            → (has n ≡ false → flat_map give behind ≡ map fact (filter has rest))
            → flat_map give (filter takes (map (entry_of s) (map (listed sort text)
            (cond first (n ∷ filter (is_first sort text) rest)
            (filter (is_first sort text) rest)))))
            ≡ map fact (cond here (n ∷ filter has rest) (filter has rest))
        step true true is_one has_it later_give =
            ap (λ b. flat_map give (cond b (entry_of s (listed sort text n) ∷ behind) behind))
            (tests n ∙ has_it)
            ∙ (λ i. gives n i
            ++ flat_map give (none_behind takes s tests n has_it (suc n) len (omega arith) i))
            ∙ append-nil (map fact (n ∷ later sort text n))
            ∙ ap (λ l. map fact (n ∷ l)) (later_is n len has_it (omega (arith, size)))
        step true false is_one has_not later_give =
            ap (λ b. flat_map give (cond b (entry_of s (listed sort text n) ∷ behind) behind))
            (tests n ∙ has_not)
            ∙ later_give has_not
        step false true is_none has_it later_give =
            absurd (true≢false (sym (is_first_of_key n has_it none) ∙ is_none))
        step false false is_none has_not later_give = later_give has_not
