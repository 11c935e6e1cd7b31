-- Some files that are shown get new versions.
use Rattle.std.proofs.Common.{◌≡◌, ◌∙◌, ◌+◌, ◌==◌, ℕ, Bool, true, false, List, [], ◌∷◌, ◌++◌, refl}
use Rattle.std.proofs.Common.{sym, ap, subst, map, filter, not, ◌||◌, cond, arith}
use Rattle.std.proofs.lemmas.Bool.{true≢false}
use Rattle.std.proofs.lemmas.List.{get_or-map, length-map}
use Rattle.std.proofs.lemmas.List.Sorted.{IsPermutation-append_right, IsPermutation-cons}
use Rattle.std.proofs.lemmas.List.Sorted.{IsPermutation-filter_both, IsPermutation-map}
use Rattle.std.proofs.lemmas.List.Sorted.{IsPermutation-middle, IsPermutation-refl}
use Rattle.std.proofs.lemmas.List.Sorted.{IsPermutation-sym, IsPermutation-trans}
use Rattle.std.proofs.lemmas.List.Sorted.{list_any-IsPermutation, sum_by-IsPermutation}
use Rattle.std.proofs.lemmas.Map.Keys.{IsDistinct-IsPermutation, IsStrictlyIncreasing-from_distinct}
use Rattle.std.specs.Cmp.Lexicographic.{slice_cmp}
use Rattle.std.specs.List.{AllByRecursion, IsDistinct}
use Rattle.std.specs.List.Sorted.{IsNonDecreasing, IsNonDecreasingBy, IsPermutation}
use Rattle.std.specs.List.Sorted.{IsStrictlyIncreasing}
use Rattle.std.specs.Ordering.{nat_cmp}
use Rattle.std.specs.Prelude.{nat_eq}
use Rattle.std.specs.Str.{bytes_eq}
use Rattle.std.specs.declared.cmp.Ordering.TheVariants.{Less}
use Rattle.cb_scan.specs.Order.{AreOrdered, in_order}
use Rattle.cb_index.specs.Archived.{Archived, name_of}
use Rattle.cb_index.specs.Files.{AreApart, AreAscending, shown_key, shown_name}
use Rattle.cb_index.specs.Names.{is_among, names_of}
use Rattle.cb_index.specs.declared.entry.Shown.{Shown}
use Rattle.cb_index.proofs.InOrderLemmas.{same_order}
use Rattle.cb_index.proofs.AscendLemmas.{ascending_filter, ascending_sorted}
use Rattle.cb_index.proofs.ListedLemmas.{ascending_apart, order_by_name, other_turned, shown_exact}
use Rattle.cb_desk.specs.declared.present.replace.Renewal.{Renewal}
use Rattle.cb_desk.specs.steps.Records.{without}
use Rattle.cb_desk.specs.steps.Replaced.{new_of, old_of, renewals}
use Rattle.cb_desk.proofs.PlacePlans.{settled}
use Rattle.cb_desk.proofs.ShownMoves.{After, Hides, IsOther, Shows, all_other, number_itself}
use Rattle.cb_desk.proofs.ShownMoves.{number_other}

-- what is shown once the files that pass have new versions, with numbers from one on
abbrev pub renewed : (Shown → Bool) → ℕ → List Shown → List Shown
renewed p n [] = []
renewed p n (s ∷ ss) =
    cond (p s) (record { name = s.name; version = n } ∷ renewed p (n + 1) ss) (s ∷ renewed p n ss)

-- ---- lists
kept_alike : {X : Type 0} (p q : X → Bool) (xs : List X) → AllByRecursion (λ x. p x ≡ q x) xs
    → filter p xs ≡ filter q xs
kept_alike p q [] all = refl
kept_alike p q (x ∷ xs) all =
    ap (λ b. cond b (x ∷ filter p xs) (filter p xs)) all.0
    ∙ ap (λ l. cond (q x) (x ∷ l) l) (kept_alike p q xs all.1)

not_twice : (b : Bool) → b ≡ not (not b)
not_twice true = refl
not_twice false = refl

eq_turned : (m n : ℕ) → (m == n) ≡ (n == m)
eq_turned m n = grind arith

eq_is : (m n : ℕ) → nat_eq m n ≡ false → (m == n) ≡ false
eq_is m n isnt = isnt

bytes_turned : (x y : List ℕ) → bytes_eq x y ≡ bytes_eq y x
bytes_turned x y = by_cases (bytes_eq x y) (bytes_eq y x) refl refl
  where
    by_cases : (b c : Bool) → bytes_eq x y ≡ b → bytes_eq y x ≡ c → b ≡ c
    by_cases true true e h = refl
    by_cases false false e h = refl
    by_cases true false e h = absurd (true≢false (sym e ∙ other_turned y x h))
    by_cases false true e h = absurd (true≢false (sym h ∙ other_turned x y e))

-- numbers of renewals that do not fall do not fall
level_names : (rs : List Renewal) → IsNonDecreasingBy (λ (r : Renewal). r.name) rs
    → IsNonDecreasing (map (λ (r : Renewal). r.name) rs)
level_names rs level i j d le within =
    let none : Renewal = record { name = 0; old = 0; new = 0 } in
    let same = length-map rs (λ (r : Renewal). r.name) in
    let low = get_or-map (λ (r : Renewal). r.name) rs i none d (omega (arith, le, within, same)) in
    let high = get_or-map (λ (r : Renewal). r.name) rs j none d (omega (arith, within, same)) in
    let less = level i j none le (omega (arith, within, same)) in
    omega (arith, low, high, less)

-- ---- names that are apart
module _ (a : Archived) where
  abbrev same_name : Shown → Shown → Bool
  same_name s t = bytes_eq (name_of a s.name) (name_of a t.name)

  distinct_from : (ss : List Shown) → AreApart a ss → IsDistinct same_name ss
  unfolding AreOrdered IsDistinct
  distinct_from [] apart = tt
  distinct_from (s ∷ ss) apart = (apart.0, distinct_from ss apart.1)

  apart_from : (ss : List Shown) → IsDistinct same_name ss → AreApart a ss
  unfolding AreOrdered IsDistinct
  apart_from [] distinct = tt
  apart_from (s ∷ ss) distinct = (distinct.0, apart_from ss distinct.1)

  -- what is shown in another order
  module _ (shown ss : List Shown) (up : AreAscending a shown) (same : IsPermutation shown ss) where
    apart_again : AreApart a ss
    apart_again =
        apart_from ss (IsDistinct-IsPermutation same_name
        (λ s t. bytes_turned (name_of a s.name) (name_of a t.name)) shown ss same
        (distinct_from shown (ascending_apart a shown up)))

    order_again : in_order (shown_name a) ss ≡ shown
    order_again =
        sym (order_by_name a ss apart_again)
        ∙ same_order (shown_key a) (shown_exact a) ss shown
        (λ f. sum_by-IsPermutation f shown ss same)
        ∙ order_by_name a shown (ascending_apart a shown up)
        ∙ settled (shown_name a) shown (ascending_sorted a shown up)

  -- ---- numbers of names
  all_numbers : (s : Shown) (ss : List Shown) → AllByRecursion (IsOther a s) ss
      → AllByRecursion (λ n. (s.name == n) ≡ false) (names_of ss)
  all_numbers s [] all = tt
  all_numbers s (t ∷ ss) all = (
    eq_turned s.name t.name ∙ eq_is t.name s.name (number_other a s t all.0),
    all_numbers s ss all.1,
  )

  numbers_differ : (ss : List Shown) → AreAscending a ss → IsDistinct (λ m n. m == n) (names_of ss)
  unfolding AreOrdered IsDistinct
  numbers_differ [] up = tt
  numbers_differ (s ∷ ss) up = (all_numbers s ss (all_other a s ss up.0), numbers_differ ss up.1)

  -- ---- which files pass, by the numbers of their names
  module _ (p : Shown → Bool) where
    none_among : (s : Shown) (ss : List Shown) → AllByRecursion (IsOther a s) ss
        → is_among (names_of (filter p ss)) s.name ≡ false
    none_among s [] all = refl
    none_among s (t ∷ ss) all =
        elim (p t) as
        (λ b. is_among (names_of (cond b (t ∷ filter p ss) (filter p ss))) s.name ≡ false) [
          | true ↦ ap (λ b. b || is_among (names_of (filter p ss)) s.name)
              (number_other a t s (other_turned (name_of a s.name) (name_of a t.name) all.0))
              ∙ none_among s ss all.1
          | false ↦ none_among s ss all.1
        ]

    still_among : (t : Shown) (ss us : List Shown) → AllByRecursion (IsOther a t) us
        → AllByRecursion (λ (s : Shown). is_among (names_of (filter p ss)) s.name ≡ p s) us
        → AllByRecursion (λ (s : Shown). is_among (names_of (filter p (t ∷ ss))) s.name ≡ p s) us
    still_among t ss [] other all = tt
    still_among t ss (s ∷ us) other all = (
      elim (p t) as
          (λ b. is_among (names_of (cond b (t ∷ filter p ss) (filter p ss))) s.name ≡ p s) [
            | true ↦ ap (λ b. b || is_among (names_of (filter p ss)) s.name)
                (number_other a t s other.0) ∙ all.0
            | false ↦ all.0
          ],
      still_among t ss us other.1 all.1,
    )

    pub among_passed : (ss : List Shown) → AreAscending a ss
        → AllByRecursion (λ (s : Shown). is_among (names_of (filter p ss)) s.name ≡ p s) ss
    unfolding AreOrdered
    among_passed [] up = tt
    among_passed (s ∷ ss) up =
        let other = all_other a s ss up.0 in
        let here : (b : Bool) → p s ≡ b
        → is_among (names_of (cond b (s ∷ filter p ss) (filter p ss))) s.name ≡ b =
        λ b is.
        elim b as (λ b. is_among (names_of (cond b (s ∷ filter p ss) (filter p ss))) s.name ≡ b) [
          | true ↦ ap (λ c. c || is_among (names_of (filter p ss)) s.name) (number_itself s.name)
          | false ↦ none_among s ss other
        ] in
        (here (p s) refl, still_among s ss ss other (among_passed ss up.1))

    -- ---- what is shown then
    all_after : (s t : Shown) (n : ℕ) (ss : List Shown) → s.name ≡ t.name
        → AllByRecursion (After a s) ss → AllByRecursion (After a t) (renewed p n ss)
    all_after s t n [] is all = tt
    all_after s t n (u ∷ ss) is all =
        elim (p u) as (λ b. AllByRecursion (After a t) (cond b
        (record { name = u.name; version = n } ∷ renewed p (n + 1) ss) (u ∷ renewed p n ss))) [
          | true ↦ (
            subst (λ m. slice_cmp nat_cmp (name_of a m) (name_of a u.name) ≡ Less) is all.0,
            all_after s t (n + 1) ss is all.1,
          )
          | false ↦ (
            subst (λ m. slice_cmp nat_cmp (name_of a m) (name_of a u.name) ≡ Less) is all.0,
            all_after s t n ss is all.1,
          )
        ]

    renewed_up : (n : ℕ) (ss : List Shown) → AreAscending a ss → AreAscending a (renewed p n ss)
    unfolding AreOrdered
    renewed_up n [] up = tt
    renewed_up n (s ∷ ss) up =
        elim (p s) as (λ b. AreAscending a (cond b
        (record { name = s.name; version = n } ∷ renewed p (n + 1) ss) (s ∷ renewed p n ss))) [
          | true ↦ (
            all_after s (record { name = s.name; version = n }) (n + 1) ss refl up.0,
            renewed_up (n + 1) ss up.1,
          )
          | false ↦ (all_after s s n ss refl up.0, renewed_up n ss up.1)
        ]

    renewed_moved : (n : ℕ) (ss : List Shown)
        → IsPermutation (renewed p n ss)
        (filter (λ s. not (p s)) ss ++ map new_of (renewals n (filter p ss)))
    renewed_moved n [] = IsPermutation-refl []
    renewed_moved n (s ∷ ss) =
        elim (p s) as (λ b. IsPermutation
        (cond b (record { name = s.name; version = n } ∷ renewed p (n + 1) ss) (s ∷ renewed p n ss))
        (cond (not b) (s ∷ filter (λ s. not (p s)) ss) (filter (λ s. not (p s)) ss)
        ++ map new_of (renewals n (cond b (s ∷ filter p ss) (filter p ss))))) [
          | true ↦
              let rest = filter (λ s. not (p s)) ss in
              let news = map new_of (renewals (n + 1) (filter p ss)) in
              let one : Shown = record { name = s.name; version = n } in
              IsPermutation-trans (one ∷ renewed p (n + 1) ss) (one ∷ (rest ++ news))
              (rest ++ one ∷ news)
              (IsPermutation-cons one (renewed p (n + 1) ss) (rest ++ news)
              (renewed_moved (n + 1) ss))
              (IsPermutation-sym (rest ++ one ∷ news) (one ∷ (rest ++ news))
              (IsPermutation-middle rest one news))
          | false ↦ IsPermutation-cons s (renewed p n ss)
              (filter (λ s. not (p s)) ss ++ map new_of (renewals n (filter p ss)))
              (renewed_moved n ss)
        ]

    -- what is not renewed is what does not pass
    without_renewed : (is : ℕ → Bool) (n : ℕ) (ss : List Shown)
        → AllByRecursion (λ (s : Shown). is s.name ≡ p s) ss
        → filter (λ (s : Shown). not (is s.name)) (renewed p n ss) ≡ filter (λ s. not (p s)) ss
    without_renewed is n [] all = refl
    without_renewed is n (s ∷ ss) all = by_test (p s) refl (λ m. without_renewed is m ss all.1)
      where
        by_test : (b : Bool) → p s ≡ b
            → ((m : ℕ) → filter (λ (s : Shown). not (is s.name)) (renewed p m ss)
            ≡ filter (λ s. not (p s)) ss)
            → filter (λ (s : Shown). not (is s.name)) (cond b
            (record { name = s.name; version = n } ∷ renewed p (n + 1) ss) (s ∷ renewed p n ss))
            ≡ cond (not b) (s ∷ filter (λ s. not (p s)) ss) (filter (λ s. not (p s)) ss)
        by_test true passes later =
            let one : Shown = record { name = s.name; version = n } in
            ap (λ c.
            cond (not c) (one ∷ filter (λ (s : Shown). not (is s.name)) (renewed p (n + 1) ss))
            (filter (λ (s : Shown). not (is s.name)) (renewed p (n + 1) ss)))
            (all.0 ∙ passes) ∙ later (n + 1)
        by_test false passes later =
            ap (λ c. cond (not c) (s ∷ filter (λ (s : Shown). not (is s.name)) (renewed p n ss))
            (filter (λ (s : Shown). not (is s.name)) (renewed p n ss)))
            (all.0 ∙ passes) ∙ ap (λ l. s ∷ l) (later n)

olds_same : (n : ℕ) (ss : List Shown) → map old_of (renewals n ss) ≡ ss
olds_same n [] = refl
olds_same n (s ∷ ss) = ap (λ l. s ∷ l) (olds_same (n + 1) ss)

names_same : (n : ℕ) (ss : List Shown) → map (λ (r : Renewal). r.name) (renewals n ss) ≡ names_of ss
names_same n [] = refl
names_same n (s ∷ ss) = ap (λ l. s.name ∷ l) (names_same (n + 1) ss)

old_names : (rs : List Renewal) → names_of (map old_of rs) ≡ map (λ (r : Renewal). r.name) rs
old_names [] = refl
old_names (r ∷ rs) = ap (λ l. r.name ∷ l) (old_names rs)

new_names : (rs : List Renewal) → names_of (map new_of rs) ≡ map (λ (r : Renewal). r.name) rs
new_names [] = refl
new_names (r ∷ rs) = ap (λ l. r.name ∷ l) (new_names rs)

-- ---- the files that pass are hidden, and shown with their new versions
module _ (a : Archived) (shown : List Shown) (up : AreAscending a shown) (p : Shown → Bool)
    (n : ℕ) (rs : List Renewal)
    (same : IsPermutation (renewals n (filter p shown)) rs)
    (level : IsNonDecreasingBy (λ (r : Renewal). r.name) rs) where
  abbrev hides : List Shown
  hides = map old_of rs

  abbrev shows : List Shown
  shows = map new_of rs

  abbrev rest : List Shown
  rest = filter (λ s. not (p s)) shown

  abbrev numbers : List ℕ
  numbers = map (λ (r : Renewal). r.name) rs

  numbers_moved : IsPermutation (names_of (filter p shown)) numbers
  numbers_moved =
      subst (λ ns. IsPermutation ns numbers) (names_same n (filter p shown))
      (IsPermutation-map (λ (r : Renewal). r.name) (renewals n (filter p shown)) rs same)

  numbers_rise : IsStrictlyIncreasing numbers
  numbers_rise =
      IsStrictlyIncreasing-from_distinct numbers (level_names rs level)
      (IsDistinct-IsPermutation (λ m n. m == n) eq_turned
      (names_of (filter p shown)) numbers numbers_moved
      (numbers_differ a (filter p shown) (ascending_filter a p shown up)))

  -- whether a file passes, by the number of its name
  among : AllByRecursion (λ (s : Shown). is_among numbers s.name ≡ p s) shown
  among = along shown (among_passed a p shown up)
    where
      along : (ss : List Shown)
          → AllByRecursion (λ (s : Shown). is_among (names_of (filter p shown)) s.name ≡ p s) ss
          → AllByRecursion (λ (s : Shown). is_among numbers s.name ≡ p s) ss
      along [] all = tt
      along (s ∷ ss) all = (
        sym (list_any-IsPermutation (nat_eq s.name) (names_of (filter p shown)) numbers
            numbers_moved) ∙ all.0,
        along ss all.1,
      )

  all_alike : (ss : List Shown) → AllByRecursion (λ (s : Shown). is_among numbers s.name ≡ p s) ss
      → AllByRecursion (λ (s : Shown). not (is_among numbers s.name) ≡ not (p s)) ss
  all_alike [] all = tt
  all_alike (s ∷ ss) all = (ap not all.0, all_alike ss all.1)

  pub rest_is : without hides shown ≡ rest
  rest_is =
      ap (λ ns. filter (λ (s : Shown). not (is_among ns s.name)) shown) (old_names rs)
      ∙ kept_alike (λ (s : Shown). not (is_among numbers s.name)) (λ s. not (p s)) shown
      (all_alike shown among)

  olds_moved : IsPermutation shown (rest ++ hides)
  olds_moved =
      IsPermutation-trans shown (rest ++ filter p shown) (rest ++ hides)
      (IsPermutation-filter_both (λ s. not (p s)) p (λ s. not_twice (p s)) shown)
      (IsPermutation-append_right rest (filter p shown) hides
      (subst (λ ss. IsPermutation ss hides) (olds_same n (filter p shown))
      (IsPermutation-map old_of (renewals n (filter p shown)) rs same)))

  news_moved : IsPermutation (renewed p n shown) (rest ++ shows)
  news_moved =
      IsPermutation-trans (renewed p n shown) (rest ++ map new_of (renewals n (filter p shown)))
      (rest ++ shows)
      (renewed_moved a p n shown)
      (IsPermutation-append_right rest (map new_of (renewals n (filter p shown))) shows
      (IsPermutation-map new_of (renewals n (filter p shown)) rs same))

  pub hides_renewed : Hides a shown hides
  hides_renewed = record {
    rise = subst IsStrictlyIncreasing (sym (old_names rs)) numbers_rise;
    left = ascending_filter a (λ (s : Shown). not (is_among (names_of hides) s.name)) shown up;
    apart =
        subst (λ ss. AreApart a (ss ++ hides)) (sym rest_is)
        (apart_again a shown (rest ++ hides) up olds_moved);
    back =
        ap (λ ss. in_order (shown_name a) (ss ++ hides)) rest_is
        ∙ order_again a shown (rest ++ hides) up olds_moved;
  }

  pub shown_then : in_order (shown_name a) (without hides shown ++ shows) ≡ renewed p n shown
  shown_then =
      ap (λ ss. in_order (shown_name a) (ss ++ shows)) rest_is
      ∙ order_again a (renewed p n shown) (rest ++ shows) (renewed_up a p n shown up) news_moved

  pub shows_renewed : Shows a (without hides shown) shows
  shows_renewed = record {
    rise = subst IsStrictlyIncreasing (sym (new_names rs)) numbers_rise;
    apart =
        subst (λ ss. AreApart a (ss ++ shows)) (sym rest_is)
        (apart_again a (renewed p n shown) (rest ++ shows) (renewed_up a p n shown up) news_moved);
    taken = ap (without shows) shown_then
        ∙ ap (λ ns. filter (λ (s : Shown). not (is_among ns s.name)) (renewed p n shown))
        (new_names rs)
        ∙ without_renewed a p (is_among numbers) n shown among ∙ sym rest_is;
  }
