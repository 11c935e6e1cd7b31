-- Numbers of names that rise.
use Rattle.std.proofs.Common.{◌≡◌, ◌≤◌, ◌<◌, ◌+◌, ℕ, true, false, List, sym, length, get_or, arith}
use Rattle.std.proofs.Common.{⊎_elim}
use Rattle.std.proofs.lemmas.Bool.{cases_Bool, cases_lt}
use Rattle.std.proofs.lemmas.Bool.Decides.{Decides-eqb, nat_tests}
use Rattle.std.proofs.lemmas.List.{get_or-map, length-map}
use Rattle.std.proofs.lemmas.List.Elements.{All-from_get_or}
use Rattle.std.proofs.lemmas.List.Folds.{list_any_at, list_any_none}
use Rattle.std.proofs.lemmas.List.Sorted.{searched}
use Rattle.std.proofs.lemmas.Map.Keys.{non_decreasing_from_sorted, sorted_from_strictly_increasing}
use Rattle.std.specs.Prelude.{nat_eq, nat_lt, Result, Ok, Err, MatchResult, is_ok}
use Rattle.std.specs.List.{AllAdjacentBelow}
use Rattle.std.specs.List.Sorted.{IsBinarySearchResult, IsSearchInRange, IsStrictlyIncreasing}
use Rattle.std.specs.Ordering.{nat_cmp}
use Rattle.cb_index.specs.Names.{is_among, names_of}
use Rattle.cb_index.specs.declared.entry.Shown.{Shown}

below_other : (x y : ℕ) → x < y → nat_eq x y ≡ false
below_other x y below =
    ⊎_elim (λ is. let same = (Decides-eqb x y).0 is in absurd (omega (arith, same, below)))
    (λ isnt. isnt) (cases_Bool (nat_eq x y))

above_other : (x y : ℕ) → y < x → nat_eq x y ≡ false
above_other x y above =
    ⊎_elim (λ is. let same = (Decides-eqb x y).0 is in absurd (omega (arith, same, above)))
    (λ isnt. isnt) (cases_Bool (nat_eq x y))

module _ (numbers : List ℕ) (n : ℕ) where
  by_result : (r : Result ℕ ℕ) → MatchResult r
      (λ i. (i < length numbers) × (get_or numbers i 0 ≡ n)) (λ i. (i ≤ length numbers)
      × ((k : ℕ) → k < i → get_or numbers k 0 < n)
      × ((k : ℕ) → i ≤ k → k < length numbers → n < get_or numbers k 0))
      → is_ok r ≡ is_among numbers n
  by_result (Ok i) found =
      sym (list_any_at (nat_eq n) numbers i 0 found.0
      ((Decides-eqb n (get_or numbers i 0)).1 (sym found.1)))
  by_result (Err i) none =
      sym (list_any_none (nat_eq n) numbers
      (All-from_get_or (λ m. nat_eq n m ≡ false) numbers 0 (λ k below.
      ⊎_elim (λ early. above_other n (get_or numbers k 0) (none.1 k early))
      (λ late. below_other n (get_or numbers k 0) (none.2 k late below))
      (cases_lt k i))))

  -- what a search by halves answers
  pub among_is : (r : Result ℕ ℕ) → IsBinarySearchResult (λ y. nat_cmp y n) numbers r
      → IsStrictlyIncreasing numbers
      → is_ok r ≡ is_among numbers n
  among_is r search rising =
      let level =
      non_decreasing_from_sorted numbers (sorted_from_strictly_increasing numbers rising) in
      by_result r (searched numbers n r search (λ i j le below. level i j 0 le below))

-- neighbours that rise
pub rising_if : (numbers : List ℕ)
    → AllAdjacentBelow (λ m n. true ≡ nat_lt m n) numbers (length numbers)
    → IsStrictlyIncreasing numbers
rising_if numbers up k below =
    less (get_or numbers k 0) (get_or numbers (k + 1) 0) (sym (up k 0 below))
  where
    less : (m n : ℕ) → nat_lt m n ≡ true → m < n
    less m n is = grind (arith, nat_tests)

-- a search of files by the numbers of their names is one of these numbers
pub found_by_name : (files : List Shown) (n : ℕ) (r : Result ℕ ℕ) → IsSearchInRange r (length files)
    → IsBinarySearchResult (λ (s : Shown). nat_cmp s.name n) files r
    → IsBinarySearchResult (λ y. nat_cmp y n) (names_of files) r
found_by_name files n (Ok i) within found = λ d.
    rw (get_or-map (λ (s : Shown). s.name) files i none d within) (found none)
  where
    none : Shown
    none = record { name = 0; version = 0 }
found_by_name files n (Err i) within none_found = λ level.
    let parted = none_found (λ j k d le below.
    rw (
      sym (get_or-map (λ (s : Shown). s.name) files j d 0 (omega (arith, le, below))),
      sym (get_or-map (λ (s : Shown). s.name) files k d 0 below),
    )
    (level j k 0 le (rw (length-map files (λ (s : Shown). s.name)) below))) in (
      (λ k d from below. rw (get_or-map (λ (s : Shown). s.name) files k none d
          (omega (arith, below, within))) (parted.0 k none from below)),
      (λ k d from below. rw (get_or-map (λ (s : Shown). s.name) files k none d
          (rw (length-map files (λ (s : Shown). s.name)) at below))
          (parted.1 k none from (rw (length-map files (λ (s : Shown). s.name)) at below))),
    )
  where
    none : Shown
    none = record { name = 0; version = 0 }

-- neighbours whose numbers rise
pub rising_names : (files : List Shown)
    → AllAdjacentBelow (λ (s t : Shown). true ≡ nat_lt s.name t.name) files (length files)
    → IsStrictlyIncreasing (names_of files)
rising_names files up =
    rising_if (names_of files) (λ k d below.
    let there : k + 1 < length files = rw (length-map files (λ (s : Shown). s.name)) at below in
    rw (
      get_or-map (λ (s : Shown). s.name) files k none d (omega (arith, there)),
      get_or-map (λ (s : Shown). s.name) files (k + 1) none d there,
    )
    (up k none there))
  where
    none : Shown
    none = record { name = 0; version = 0 }
