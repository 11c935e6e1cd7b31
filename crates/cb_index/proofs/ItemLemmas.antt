-- Items of one key.
use Rattle.std.proofs.Common.{◌≡◌, ◌∙◌, ◌<◌, ◌+◌, ◌-◌, ℕ, suc, Bool, true, false}
use Rattle.std.proofs.Common.{List, [], ◌∷◌, refl, sym, ap, length, map, filter}
use Rattle.std.proofs.Common.{arith}
use Rattle.std.specs.Prelude.{cond, not, ◌||◌}
use Rattle.std.specs.List.{list_any, range_with_len}
use Rattle.std.specs.Str.{bytes_eq}
use Rattle.std.specs.Cmp.Lexicographic.{same_text}
use Rattle.cb_scan.specs.declared.facts.Def.{Def}
use Rattle.cb_index.specs.Scanned.{Scanned}
use Rattle.cb_index.specs.Firsts.{listed}
use Rattle.cb_index.specs.Held.{Listed}
use Rattle.cb_index.specs.Items.{have_one_key, is_first, item_count, item_key, later}
use Rattle.cb_index.specs.Orders.{numbered}
use Rattle.cb_index.specs.declared.entry.FactKind.{FactKind}

-- ---- definitions: each has a number
pub length_numbered : (prefixed : Def → ℕ) (n : ℕ) (ds : List Def)
    → length (numbered n (map prefixed ds)) ≡ length ds
length_numbered prefixed n [] = refl
length_numbered prefixed n (d ∷ ds) = ap suc (length_numbered prefixed (suc n) ds)

-- ---- what is left of a range
module _ (p : ℕ → Bool) (k n : ℕ) (below : k < n) where
  abbrev after : List ℕ
  after = range_with_len (k + 1) (n - (k + 1))

  more : n - k ≡ suc (n - (k + 1))
  more = omega (arith, below)

  any_here : p k ≡ true → list_any p (range_with_len k (n - k)) ≡ true
  any_here is =
      ap (λ m. list_any p (range_with_len k m)) more ∙ ap (λ b. b || list_any p after) is

  any_passed : p k ≡ false → list_any p (range_with_len k (n - k)) ≡ list_any p after
  any_passed is =
      ap (λ m. list_any p (range_with_len k m)) more ∙ ap (λ b. b || list_any p after) is

  pub kept_here : p k ≡ true → filter p (range_with_len k (n - k)) ≡ k ∷ filter p after
  kept_here is =
      ap (λ m. filter p (range_with_len k m)) more
      ∙ ap (λ b. cond b (k ∷ filter p after) (filter p after)) is

  pub kept_passed : p k ≡ false → filter p (range_with_len k (n - k)) ≡ filter p after
  kept_passed is =
      ap (λ m. filter p (range_with_len k m)) more
      ∙ ap (λ b. cond b (k ∷ filter p after) (filter p after)) is

module _ (sort : FactKind) (text : Scanned) where
  abbrev count : ℕ
  count = item_count sort text

  abbrev has_its_key : ℕ → ℕ → Bool
  has_its_key item = have_one_key sort text item

  -- ---- whether no item before one has its key, of those from a place on
  abbrev pub is_first_from : ℕ → ℕ → Bool
  is_first_from item k = not (list_any (has_its_key item) (range_with_len k (item - k)))

  pub first_begun : (item : ℕ) → is_first_from item 0 ≡ is_first sort text item
  unfolding is_first
  first_begun item =
      let all : item - 0 ≡ item = omega arith in
      ap (λ n. not (list_any (has_its_key item) (range_with_len 0 n))) all

  pub first_passed : (item k : ℕ) → k < item → has_its_key item k ≡ false
      → is_first_from item (k + 1) ≡ is_first_from item k
  first_passed item k below is = ap not (sym (any_passed (has_its_key item) k item below is))

  pub first_found : (item k : ℕ) → k < item → has_its_key item k ≡ true
      → false ≡ is_first_from item k
  first_found item k below is = ap not (sym (any_here (has_its_key item) k item below is))

  -- ---- the items that have the key of an item, from a place on
  abbrev pub later_from : ℕ → ℕ → List ℕ
  later_from item k = filter (has_its_key item) (range_with_len k (count - k))

  pub later_begun : (item : ℕ) → later_from item (item + 1) ≡ later sort text item
  unfolding later
  later_begun item =
      let next : item + 1 ≡ suc item = omega arith in
      ap (λ n. filter (has_its_key item) (range_with_len n (count - n))) next

  pub later_passed : (item k : ℕ) → k < count → has_its_key item k ≡ false
      → later_from item (k + 1) ≡ later_from item k
  later_passed item k below is = sym (kept_passed (has_its_key item) k count below is)

  same_test : (i j : ℕ) → has_its_key i j ≡ true → has_its_key i ≡ has_its_key j
  same_test i j is =
      let key : item_key sort text i ≡ item_key sort text j = same_text _ _ (sym is) in
      ap (λ k n. bytes_eq k (item_key sort text n)) key

  -- behind an item of the key stand those that are behind it and have its key
  pub later_found : (item k : ℕ) → k < count → has_its_key item k ≡ true
      → later_from item k ≡ k ∷ later sort text k
  later_found item k below is =
      kept_here (has_its_key item) k count below is
      ∙ ap (λ p. k ∷ filter p (range_with_len (k + 1) (count - (k + 1)))) (same_test item k is)
      ∙ ap (λ l. k ∷ l) (later_begun k)

  -- ---- the first items of all keys, from a place on
  abbrev pub firsts_from : ℕ → List Listed
  firsts_from k =
      map (listed sort text) (filter (is_first sort text) (range_with_len k (count - k)))

  pub firsts_found : (k : ℕ) → k < count → is_first sort text k ≡ true
      → firsts_from k ≡ listed sort text k ∷ firsts_from (k + 1)
  firsts_found k below is =
      ap (map (listed sort text)) (kept_here (is_first sort text) k count below is)

  pub firsts_passed : (k : ℕ) → k < count → is_first sort text k ≡ false
      → firsts_from k ≡ firsts_from (k + 1)
  firsts_passed k below is =
      ap (map (listed sort text)) (kept_passed (is_first sort text) k count below is)
