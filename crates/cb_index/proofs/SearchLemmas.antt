-- A search for a key in a file.
use Rattle.std.proofs.Common.{◌≡◌, ◌∙◌, ◌+◌, ◌-◌, ◌<◌, ◌≤◌, ℕ, zero, suc, Bool, true, false, List}
use Rattle.std.proofs.Common.{[], ◌∷◌, ◌++◌, Some, refl, sym, ap, subst, length, map, filter}
use Rattle.std.proofs.Common.{arith, ◌⊎◌, inl, inr}
use Rattle.std.proofs.lemmas.Bool.{cases_lt}
use Rattle.std.proofs.lemmas.List.{length-map}
use Rattle.std.proofs.lemmas.List.Elements.{filter_agree}
use Rattle.std.proofs.lemmas.List.Sums.{sum_by-cons}
use Rattle.std.specs.Prelude.{cond, sum_by}
use Rattle.std.specs.List.{AllByRecursion, flat_map, range_with_len}
use Rattle.cb_index.specs.Scanned.{Scanned}
use Rattle.cb_index.specs.Archived.{Archived, name_of, text_at, text_of}
use Rattle.cb_index.specs.Counts.{row_count, rows_in_files, unlike, unlike_in_files}
use Rattle.cb_index.specs.Files.{File, IsThere, files_of}
use Rattle.cb_index.specs.Items.{have_one_key, is_first, item_count, later}
use Rattle.cb_index.specs.Rows.{Fact, facts_named, file_facts}
use Rattle.cb_index.specs.steps.Found.{fact_at}
use Rattle.cb_index.specs.steps.Given.{gives}
use Rattle.cb_index.specs.steps.Searched.{items_with, searched_at, searched_count, searched_in_text}
use Rattle.cb_index.specs.steps.Spread.{items_from}
use Rattle.cb_index.specs.declared.entry.Shown.{Shown}
use Rattle.cb_index.specs.declared.entry.FactKind.{FactKind}
use Rattle.cb_index.specs.Columns.{HasNone, column_of}
use Rattle.cb_index.specs.Hash.{hash}
use Rattle.cb_index.proofs.ColumnLemmas.{far_from, skipped}
use Rattle.cb_index.proofs.FactLemmas.{named_apart, one_searched}
use Rattle.cb_index.proofs.FirstLemmas.{has, is_first_of_key, same_test}
use Rattle.cb_index.proofs.NewRowLemmas.{rows_counted, rows_new}
use Rattle.cb_index.proofs.RangeItems.{range_next}
use Rattle.cb_index.proofs.TextLemmas.{text_there}

module _ (sort : FactKind) (text : Scanned) (key : List ℕ) where
  -- the items from one on that have the key
  abbrev pub with_from : ℕ → List ℕ
  with_from k = filter (has sort text key) (range_with_len k (item_count sort text - k))

  next_from : (k : ℕ) → k < item_count sort text → with_from k
      ≡ cond (has sort text key k) (k ∷ with_from (suc k)) (with_from (suc k))
  next_from k below =
      let more : item_count sort text - k ≡ suc (item_count sort text - suc k) =
      omega (arith, below) in
      ap (λ n. filter (has sort text key) (range_with_len k n)) more
      ∙ ap (filter (has sort text key)) (range_next k (item_count sort text - suc k))

  pub with_passed : (k : ℕ) → k < item_count sort text → has sort text key k ≡ false
      → with_from (suc k) ≡ with_from k
  with_passed k below isnt =
      sym (next_from k below ∙ ap (λ b. cond b (k ∷ with_from (suc k)) (with_from (suc k))) isnt)

  pub with_found : (k : ℕ) → k < item_count sort text → has sort text key k ≡ true
      → with_from k ≡ items_from sort text k
  unfolding later
  with_found k below is =
      next_from k below ∙ ap (λ b. cond b (k ∷ with_from (suc k)) (with_from (suc k))) is
      ∙ ap (λ l. k ∷ l) (sym
      (filter_agree (have_one_key sort text k) (has sort text key) (same_test sort text key k is)
      (range_with_len (suc k) (item_count sort text - suc k))))

  -- where none before an item has the key, those that have it are left
  pub with_behind : (k : ℕ) → ((before : ℕ) → before < k → has sort text key before ≡ false)
      → items_with sort text key ≡ with_from k
  with_behind k none =
      let all : item_count sort text ≡ item_count sort text - 0 = omega arith in
      ap (λ n. filter (has sort text key) (range_with_len 0 n)) all
      ∙ sym (skipped (has sort text key) (item_count sort text) 0 k (omega arith)
      (λ before low. none before))

  pub with_past : (k : ℕ) → item_count sort text ≤ k → with_from k ≡ []
  with_past k past =
      let none : item_count sort text - k ≡ 0 = omega (arith, past) in
      ap (λ n. filter (has sort text key) (range_with_len k n)) none

  -- where no cell has the hash of the key, no item has the key
  pub none_with : HasNone (hash key) (column_of sort text) → items_with sort text key ≡ []
  none_with none =
      with_behind (item_count sort text) (λ before low. far_from sort text key before low none)
      ∙ with_past (item_count sort text) (omega arith)

  module _ (file : List ℕ) where
    abbrev fact : ℕ → Fact
    fact = fact_at sort file text

    abbrev IsNew : ℕ → Type 0
    IsNew k =
        map fact (filter (gives false sort text) (with_from k))
        ≡ unlike sort (map fact (with_from k))

    -- those that are no repeats give each row once
    new_from : (n k : ℕ) → k + n ≡ item_count sort text
        → ((before : ℕ) → before < k → has sort text key before ≡ false)
        → map fact (filter (gives false sort text) (with_from k))
        ≡ unlike sort (map fact (with_from k))
    unfolding unlike
    new_from zero k all none =
        let past : item_count sort text - k ≡ 0 = omega (arith, all) in
        subst (λ m.
        map fact (filter (gives false sort text) (filter (has sort text key) (range_with_len k m)))
        ≡ unlike sort (map fact (filter (has sort text key) (range_with_len k m)))) (sym past) refl
    new_from (suc n) k all none =
        by_test (has sort text key k) refl (λ still. new_from n (suc k) (omega (arith, all)) still)
      where
        below : k < item_count sort text
        below = omega (arith, all)

        by_test : (b : Bool) → has sort text key k ≡ b
            → (((before : ℕ) → before < suc k → has sort text key before ≡ false) → IsNew (suc k))
            → IsNew k
        by_test true is later =
            let found = with_found k below is in
            ap (λ l. map fact (filter (gives false sort text) l)) found
            ∙ sym (rows_new file sort text k (is_first_of_key sort text key k is none))
            ∙ ap (λ l. unlike sort (map fact l)) (sym found)
        by_test false isnt later =
            let passed = with_passed k below isnt in
            ap (λ l. map fact (filter (gives false sort text) l)) (sym passed)
            ∙ later still
            ∙ ap (λ l. unlike sort (map fact l)) passed
          where
            still : (before : ℕ) → before < suc k → has sort text key before ≡ false
            still before low = by_order (cases_lt before k)
              where
                by_order : (before < k) ⊎ (k ≤ before) → has sort text key before ≡ false
                by_order (inl early) = none before early
                by_order (inr late) =
                    let same : before ≡ k = omega (arith, late, low) in
                    ap (has sort text key) same ∙ isnt

    pub searched_new : map fact (filter (gives false sort text) (items_with sort text key))
        ≡ unlike sort (map fact (items_with sort text key))
    searched_new =
        let all : item_count sort text - 0 ≡ item_count sort text = omega arith in
        subst (λ n.
        map fact (filter (gives false sort text) (filter (has sort text key) (range_with_len 0 n)))
        ≡ unlike sort (map fact (filter (has sort text key) (range_with_len 0 n)))) all
        (new_from (item_count sort text) 0 (omega arith)
        (λ before low. absurd (omega (arith, low))))

  -- as many as the first item and those behind it have
  pub searched_rows : (file : List ℕ) (item : ℕ) → is_first sort text item ≡ true
      → items_with sort text key ≡ items_from sort text item
      → row_count sort text item ≡ length
      (map (fact_at sort file text) (filter (gives false sort text) (items_with sort text key)))
  searched_rows file item first is =
      sym (rows_counted sort text item first)
      ∙ ap (λ l. length (filter (gives false sort text) l)) (sym is)
      ∙ sym (length-map (filter (gives false sort text) (items_with sort text key))
      (fact_at sort file text))

-- ---- all files
module _ (kind : FactKind) (a : Archived) (key : List ℕ) where
  all_kept : (items : List ℕ) → filter (λ i. true) items ≡ items
  all_kept [] = refl
  all_kept (i ∷ items) = ap (λ l. i ∷ l) (all_kept items)

  module _ (s : Shown) (text : Scanned) (there : text_at a s.version ≡ Some text) where
    abbrev file : File
    file = record { name = name_of a s.name; bytes = text.bytes }

    one_all : searched_at true kind a key s ≡ file_facts text.profile kind key file
    one_all =
        ap (searched_in_text true kind (name_of a s.name) key) there
        ∙ ap (map (fact_at kind (name_of a s.name) text)) (all_kept (items_with kind text key))
        ∙ one_searched a s text there key kind

    one_new : searched_at false kind a key s ≡ unlike kind (file_facts text.profile kind key file)
    one_new =
        ap (searched_in_text false kind (name_of a s.name) key) there
        ∙ searched_new kind text key (name_of a s.name)
        ∙ ap (unlike kind) (one_searched a s text there key kind)

  all_searched : (shown : List Shown) → AllByRecursion (IsThere a) shown
      → flat_map (searched_at true kind a key) shown
      ≡ flat_map (file_facts a.profile kind key) (files_of a shown)
  all_searched [] all = refl
  all_searched (s ∷ shown) all =
      λ i. one_all s (text_of a s.version) (text_there a s.version all.0.1) i
      ++ all_searched shown all.1 i

  pub facts_searched : (shown : List Shown) → AllByRecursion (IsThere a) shown
      → flat_map (searched_at true kind a key) shown ≡ facts_named a.profile kind key (files_of a
      shown)
  facts_searched shown all = all_searched shown all ∙ named_apart a.profile kind key (files_of a
      shown)

  pub new_searched : (shown : List Shown) → AllByRecursion (IsThere a) shown
      → flat_map (searched_at false kind a key) shown
      ≡ unlike_in_files kind (file_facts a.profile kind key) (files_of a shown)
  new_searched [] all = refl
  new_searched (s ∷ shown) all =
      λ i. one_new s (text_of a s.version) (text_there a s.version all.0.1) i
      ++ new_searched shown all.1 i

  pub counted_searched : (shown : List Shown) → AllByRecursion (IsThere a) shown
      → sum_by (searched_count kind a key) shown
      ≡ rows_in_files kind (file_facts a.profile kind key) (files_of a shown)
  counted_searched [] all = refl
  counted_searched (s ∷ shown) all =
      let text = text_of a s.version in
      let file : File = record { name = name_of a s.name; bytes = text.bytes } in
      let here = ap length (one_new s text (text_there a s.version all.0.1)) in
      sum_by-cons (searched_count kind a key) s shown
      ∙ (λ i. here i + counted_searched shown all.1 i)
      ∙ sym (sum_by-cons (λ (f : File). length (unlike kind (file_facts a.profile kind key f))) file
      (files_of a shown))
