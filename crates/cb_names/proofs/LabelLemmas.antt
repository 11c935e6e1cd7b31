-- The labels of a function, token by token, are those of the definitions.
use Rattle.std.proofs.Common.{◌≡◌, ◌∙◌, ◌+◌, ◌-◌, ◌<◌, ◌≤◌, ◌++◌, ◌∷◌, [], ℕ, zero, suc, Bool, true, false}
use Rattle.std.proofs.Common.{List, Some, None, refl, sym, ap, add-one, arith, length, map}
use Rattle.std.proofs.lemmas.List.Elements.{filter-append}
use Rattle.std.proofs.Math.Bool.{and-false}
use Rattle.std.proofs.lemmas.Bool.{lt-ltb}
use Rattle.std.proofs.lemmas.List.{map-append}
use Rattle.std.specs.Prelude.{◌&&◌, ◌||◌, cond, filter, find, nat_lt, slice_index_or, take}
use Rattle.std.specs.List.{AllByRecursion, flat_map, list_any, range_with_len}
use Rattle.cb_scan.specs.declared.rules.scope.Range.{Range}
use Rattle.cb_scan.specs.declared.rules.wide.token.WideToken.{WideToken}
use Rattle.cb_scan.specs.CodeTokens.{IsTokenOf}
use Rattle.cb_names.specs.declared.word.Item.{Item}
use Rattle.cb_names.specs.Braces.{is_name_at}
use Rattle.cb_names.specs.Functions.{IsItemOf, before, extent, head_before, own_items}
use Rattle.cb_names.specs.HardAttributes.{is_left_out, kept_at, without_hard}
use Rattle.cb_names.specs.Labels.{follows_goto, is_same, label_named, label_of, label_use, names_label}
use Rattle.cb_names.specs.Locals.{uses_where}
use Rattle.cb_names.specs.declared.local.LocalUse.{LocalUse}
use Rattle.cb_names.specs.Pairs.{at}
use Rattle.cb_names.specs.Statements.{is_label, is_lone_colon, starts}
use Rattle.cb_names.specs.Tables.{IsTable}
use Rattle.cb_names.specs.Words.{item_of}
use Rattle.cb_names.specs.steps.Labelling.{defines, is_label_by, names_label_by, uses_by}
use Rattle.cb_names.proofs.HardLemmas.{range_more}
use Rattle.cb_scan.proofs.WithinLemmas.{all-append, all-drop, all-take}

map-cond : {A : Type 0} (f : ℕ → A) (b : Bool) (a : ℕ) (l : List ℕ) → map f (cond b (a ∷ l) l) ≡ cond b (f a ∷ map f l) (map f l)
map-cond f true a l = refl
map-cond f false a l = refl

-- ---- tests of indices in turn
pub range_first : (j n : ℕ) → j < n → range_with_len j (n - j) ≡ j ∷ range_with_len (j + 1) (n - (j + 1))
range_first j n less =
    let one : n - j ≡ suc (n - (j + 1)) = omega (arith, less) in
    ap (range_with_len j) one

module _ (p : ℕ → Bool) where
  pub found_here : (j n : ℕ) → j < n → p j ≡ true → find p (range_with_len j (n - j)) ≡ Some j
  found_here j n less is =
      ap (find p) (range_first j n less) ∙ ap (λ b. cond b (Some j) (find p (range_with_len (j + 1) (n - (j + 1))))) is

  pub found_later : (j n : ℕ) → j < n → p j ≡ false
      → find p (range_with_len (j + 1) (n - (j + 1))) ≡ find p (range_with_len j (n - j))
  found_later j n less isnt =
      sym (ap (find p) (range_first j n less)
      ∙ ap (λ b. cond b (Some j) (find p (range_with_len (j + 1) (n - (j + 1))))) isnt)

  pub any_later : (j n : ℕ) → j < n → p j ≡ false
      → list_any p (range_with_len (j + 1) (n - (j + 1))) ≡ list_any p (range_with_len j (n - j))
  any_later j n less isnt =
      sym (ap (list_any p) (range_first j n less)
      ∙ ap (λ b. b || list_any p (range_with_len (j + 1) (n - (j + 1)))) isnt)

module _ (p q : ℕ → Bool) where
  pub find_same : (a n : ℕ) → ((j : ℕ) → a ≤ j → j < a + n → p j ≡ q j)
      → find p (range_with_len a n) ≡ find q (range_with_len a n)
  find_same a zero same = refl
  find_same a (suc n) same =
      (λ i. cond (same a (omega arith) (omega arith) i) (Some a)
      (find_same (a + 1) n (λ j le less. same j (omega (arith, le)) (omega (arith, less))) i))

  -- nor does it matter what a test refuses
  pub uses_same_by : {A : Type 0} (f g : ℕ → A) (a n : ℕ)
      → ((j : ℕ) → a ≤ j → j < a + n → p j ≡ q j) → ((j : ℕ) → a ≤ j → j < a + n → f j ≡ g j)
      → map f (filter p (range_with_len a n)) ≡ map g (filter q (range_with_len a n))
  uses_same_by f g a zero same alike = refl
  uses_same_by f g a (suc n) same alike =
      let rest = uses_same_by f g (a + 1) n (λ j le less. same j (omega (arith, le)) (omega (arith, less)))
      (λ j le less. alike j (omega (arith, le)) (omega (arith, less))) in
      map-cond f (p a) a (filter p (range_with_len (a + 1) n))
      ∙ (λ i. cond (same a (omega arith) (omega arith) i) (alike a (omega arith) (omega arith) i ∷ rest i) (rest i))
      ∙ sym (map-cond g (q a) a (filter q (range_with_len (a + 1) n)))

module _ (f : ℕ → LocalUse) (test : ℕ → Bool) where
  one : (n : ℕ) (b : Bool) → map f (cond b (n ∷ []) []) ≡ cond b (f n ∷ []) []
  one n true = refl
  one n false = refl

  pub uses_more : (n : ℕ) → uses_where f test (n + 1) ≡ uses_where f test n ++ cond (test n) (f n ∷ []) []
  uses_more n =
      ap (λ l. map f (filter test l)) (range_more n)
      ∙ ap (map f) (filter-append test (range_with_len 0 n) (n ∷ []))
      ∙ map-append f (filter test (range_with_len 0 n)) (filter test (n ∷ []))
      ∙ ap (λ l. uses_where f test n ++ l) (one n (test n))

-- ---- labels
module _ (text : List ℕ) (xs : List Item) (b k : ℕ) (table : List Bool) (t : IsTable (starts xs b) (length xs) table) where
  label_same : (j : ℕ) → j < length xs → is_label_by xs (slice_index_or table j false) j ≡ is_label xs b j
  label_same j less =
      (λ i. is_name_at xs j && is_lone_colon xs (add-one j i) && t.at j false less i)

  pub names_same : (j : ℕ) → j < length xs → names_label_by xs (slice_index_or table j false) j ≡ names_label xs b j
  names_same j less = (λ i. is_name_at xs j && (follows_goto xs j || label_same j less i))

  pub definition_same : find (defines text xs table k) (range_with_len 0 (length xs))
      ≡ find (λ j. is_label xs b j && is_same text xs j k) (range_with_len 0 (length xs))
  definition_same =
      find_same _ _ 0 (length xs)
      (λ j le less. ap (λ c. c && is_same text xs j k) (label_same j (omega (arith, less))))

  pub uses_same : uses_by text xs table k
      ≡ uses_where (λ j. label_use xs (is_label xs b j) j) (λ j. names_label xs b j && is_same text xs j k) (length xs)
  uses_same =
      uses_same_by _ _ _ _ 0 (length xs)
      (λ j le less. ap (λ c. c && is_same text xs j k) (names_same j (omega (arith, less))))
      (λ j le less. ap (λ c. label_use xs c j) (label_same j (omega (arith, less))))

  pub named : k < length xs → names_label xs b k ≡ true → label_named text xs b k ≡ Some (label_of text xs b k)
  named less is =
      (λ i. cond (lt-ltb k (length xs) less i && is i) (Some (label_of text xs b k)) None)

  pub unnamed : names_label xs b k ≡ false → label_named text xs b k ≡ None
  unnamed isnt =
      ap (λ c. cond (nat_lt k (length xs) && c) (Some (label_of text xs b k)) None) isnt
      ∙ ap (λ c. cond c (Some (label_of text xs b k)) None) (and-false (nat_lt k (length xs)))

-- ---- tokens that lie in a text
module _ (text : List ℕ) where
  pub all_items : (ts : List WideToken) → AllByRecursion (IsTokenOf text) ts → AllByRecursion (IsItemOf text) (map (item_of text) ts)
  all_items [] a = a
  all_items (x ∷ ts) a = (a.0, all_items ts a.1)

  all_at : (xs : List Item) (k : ℕ) → k < length xs → AllByRecursion (IsItemOf text) xs → IsItemOf text (at xs k)
  all_at [] k less a = absurd (omega (arith, less))
  all_at (x ∷ xs) zero less a = a.0
  all_at (x ∷ xs) (suc k) less a = all_at xs k (omega (arith, less)) a.1

  all_kept : (xs : List Item) (a n : ℕ) → a + n ≤ length xs → AllByRecursion (IsItemOf text) xs
      → AllByRecursion (IsItemOf text) (flat_map (kept_at xs) (range_with_len a n))
  all_kept xs a zero le all = tt
  all_kept xs a (suc n) le all =
      all-append (IsItemOf text) (kept_at xs a) (flat_map (kept_at xs) (range_with_len (a + 1) n))
      (elim (is_left_out xs a) as (λ b. AllByRecursion (IsItemOf text) (cond b [] (at xs a ∷ [])))
      [ true ↦ tt | false ↦ (all_at xs a (omega (arith, le)) all, tt) ])
      (all_kept xs (a + 1) n (omega (arith, le)) all)

  pub all_kept_of : (xs : List Item) → AllByRecursion (IsItemOf text) xs
      → AllByRecursion (IsItemOf text) (without_hard xs)
  all_kept_of xs = all_kept xs 0 (length xs) (omega arith)

  pub all_own : (ts : List WideToken) (r : Range) → AllByRecursion (IsTokenOf text) ts
      → AllByRecursion (IsItemOf text) (own_items (map (item_of text) ts) r)
  all_own ts r a =
      let xs = map (item_of text) ts in
      all_kept_of (extent xs r)
      (all-drop (IsItemOf text) (head_before xs (before r.name.start xs)) (take (before r.end xs) xs)
      (all-take (IsItemOf text) (before r.end xs) xs (all_items ts a)))
