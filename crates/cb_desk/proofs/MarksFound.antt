-- The marks of one file among marks that ascend by file and line.
use Rattle.std.proofs.Common.{◌≡◌, ◌≢◌, ◌∙◌, ◌≤◌, ◌<◌, ◌+◌, sym, ap, refl, subst, ℕ, zero, suc}
use Rattle.std.proofs.Common.{Bool, true, false, cond, List, [], ◌∷◌, map, filter, take, drop}
use Rattle.std.proofs.Common.{length, get_or, arith, nat_cmp, is_eq, is_lt, Ordering, Less, Equal}
use Rattle.std.proofs.Common.{Greater, bytes_eq}
use Rattle.std.proofs.lemmas.Cmp.{nat_list_cmp_total}
use Rattle.std.proofs.lemmas.List.Kept.{IsStrictlySortedBy-filter}
use Rattle.std.proofs.lemmas.Map.Text.{is_eq-slice_cmp}
use Rattle.std.specs.Cmp.Lexicographic.{slice_cmp}
use Rattle.std.specs.List.{AllByRecursion, AllWithin, prefix_len}
use Rattle.std.specs.List.Sorted.{IsPartitionedBy, IsStrictlySortedBy}
use Rattle.std.specs.Ordering.{ordering_then}
use Rattle.cb_index.specs.Archived.{Archived, name_of}
use Rattle.cb_desk.specs.declared.places.FileLine.{FileLine}
use Rattle.cb_desk.specs.Marks.{marked_lines}
use Rattle.cb_desk.specs.Places.{is_in}
use Rattle.cb_desk.specs.World.{AreAscending, Place, place_key}
use Rattle.cb_desk.specs.steps.Records.{place_in}
use Rattle.cb_desk.specs.steps.Replaced.{places_in}
use Rattle.cb_desk.proofs.PlaceLemmas.{name-same, same-name}
use Rattle.cb_desk.proofs.PlaceOrder.{cmp-places, name-equal}
use Rattle.cb_desk.proofs.Placed.{less-from}
use Rattle.cb_desk.proofs.Valid.{all-passed}

-- ---- names
-- of two places in order the first one's file does not come after the other's
abbrev NotAfter : List ℕ → List ℕ → Type 0
NotAfter a b = slice_cmp nat_cmp a b ≢ Greater

then_not_after : (o p : Ordering) → ordering_then o p ≡ Less → o ≢ Greater
then_not_after Less p e k = cc
then_not_after Equal p e k = cc
then_not_after Greater p e k = cc

not_after : (p q : Place) → slice_cmp nat_cmp (place_key p) (place_key q) ≡ Less
    → NotAfter p.file q.file
not_after p q less =
    then_not_after _ (nat_cmp p.line q.line) (sym (cmp-places p.file q.file p.line q.line) ∙ less)

pub less_apart : (a b : List ℕ) → slice_cmp nat_cmp a b ≡ Less → bytes_eq b a ≡ false
less_apart a b less =
    (elim (bytes_eq b a) as (λ e. bytes_eq b a ≡ e → e ≡ false) [
      | true ↦ λ h. let same : slice_cmp nat_cmp a a ≡ Less =
          subst (λ n. slice_cmp nat_cmp a n ≡ Less) (same-name b a h) less in let equal =
          name-equal a in cc
      | false ↦ λ h. refl
    ]) refl

-- a name that does not come before another and is not that name comes after it
pub strictly : (a b : List ℕ) → NotAfter a b → bytes_eq b a ≡ false → slice_cmp nat_cmp a b ≡ Less
strictly a b low other = by_cases (slice_cmp nat_cmp a b) refl
  where
    by_cases : (o : Ordering) → slice_cmp nat_cmp a b ≡ o → slice_cmp nat_cmp a b ≡ Less
    by_cases Less e = e
    by_cases Equal e =
        let same = is_eq-slice_cmp a b in let yes_eq : bytes_eq a b ≡ true =
        sym same ∙ ap is_eq e in let back : bytes_eq b a ≡ true =
        ap (bytes_eq b) (same-name a b yes_eq) ∙ name-same b in cc
    by_cases Greater e = absurd (low e)

less_then : (a b c : List ℕ) → slice_cmp nat_cmp a b ≡ Less → NotAfter b c
    → slice_cmp nat_cmp a c ≡ Less
less_then a b c less low = by_cases (slice_cmp nat_cmp b c) refl
  where
    by_cases : (o : Ordering) → slice_cmp nat_cmp b c ≡ o → slice_cmp nat_cmp a c ≡ Less
    by_cases Less e = nat_list_cmp_total.trans a b c less e
    by_cases Equal e =
        let same = is_eq-slice_cmp b c in let yes_eq : bytes_eq b c ≡ true = sym same
        ∙ ap is_eq e in subst (λ n. slice_cmp nat_cmp a n ≡ Less) (same-name b c yes_eq) less
    by_cases Greater e = absurd (low e)

lower_differs : (o : Ordering) → is_lt o ≡ true → is_eq o ≡ false
lower_differs Less e = refl
lower_differs Equal e = cc
lower_differs Greater e = refl

lower_first : (x y z : List ℕ) → NotAfter x y → slice_cmp nat_cmp y z ≡ Less
    → slice_cmp nat_cmp x z ≡ Less
lower_first x y z low less = by_cases (slice_cmp nat_cmp x y) refl
  where
    by_cases : (o : Ordering) → slice_cmp nat_cmp x y ≡ o → slice_cmp nat_cmp x z ≡ Less
    by_cases Less e = nat_list_cmp_total.trans x y z e less
    by_cases Equal e =
        let same : x ≡ y = same-name x y (sym (is_eq-slice_cmp x y) ∙ ap is_eq e) in
        subst (λ n. slice_cmp nat_cmp n z ≡ Less) (sym same) less
    by_cases Greater e = absurd (low e)

pub no_lower : (x y : List ℕ) → is_lt (slice_cmp nat_cmp x y) ≡ false → NotAfter y x
no_lower x y isnt after = turned (slice_cmp nat_cmp x y) refl
  where
    turned : (o : Ordering) → slice_cmp nat_cmp x y ≡ o → ⊥
    turned Less e = let lower : is_lt (slice_cmp nat_cmp x y) ≡ true = ap is_lt e in cc
    turned Equal e =
        let same : x ≡ y = same-name x y (sym (is_eq-slice_cmp x y) ∙ ap is_eq e) in
        let itself : slice_cmp nat_cmp x y ≡ Greater =
        subst (λ n. slice_cmp nat_cmp n y ≡ Greater) (sym same)
        (subst (λ n. slice_cmp nat_cmp y n ≡ Greater) same after) in
        cc
    turned Greater e =
        let back = nat_list_cmp_total.antisymm x y in cc

-- ---- marks of one file
none_left : (name : List ℕ) (marks : List Place) → AllByRecursion (λ p. is_in name p ≡ false) marks
    → filter (is_in name) marks ≡ []
none_left name [] all = refl
none_left name (p ∷ marks) all = rw all.0 (none_left name marks all.1)

lines_later : (name : List ℕ) (p : Place) (mine : List Place) → is_in name p ≡ true
    → AllByRecursion (λ q. is_in name q ≡ true) mine
    → AllByRecursion (λ q. slice_cmp nat_cmp (place_key p) (place_key q) ≡ Less) mine
    → AllByRecursion (λ m. nat_cmp p.line m ≡ Less) (map (λ q. q.line) mine)
lines_later name p [] here all less = tt
lines_later name p (q ∷ mine) here all less =
    let same : q.file ≡ p.file = same-name q.file name all.0 ∙ sym (same-name p.file name here) in
    let by_line : ordering_then (slice_cmp nat_cmp p.file q.file) (nat_cmp p.line q.line) ≡ Less =
    sym (cmp-places p.file q.file p.line q.line) ∙ less.0 in (
      ap (λ o. ordering_then o (nat_cmp p.line q.line))
          (sym (ap (slice_cmp nat_cmp p.file) same ∙ name-equal p.file)) ∙ by_line,
      lines_later name p mine here all.1 less.1,
    )

lines_strict : (name : List ℕ) (mine : List Place) → AllByRecursion (λ q. is_in name q ≡ true) mine
    → AreAscending mine
    → IsStrictlySortedBy nat_cmp (map (λ q. q.line) mine)
unfolding IsStrictlySortedBy
lines_strict name [] all up = tt
lines_strict name (p ∷ mine) all up =
    (lines_later name p mine all.0 all.1 up.0, lines_strict name mine all.1 up.1)

-- ---- lists
pub all_from : {X : Type 0} (P : X → Type 0) (xs : List X) (i : ℕ) → AllWithin P xs i (length xs)
    → AllByRecursion P (drop i xs)
all_from P [] zero all = tt
all_from P [] (suc i) all = tt
all_from P (x ∷ xs) zero all = (
  all 0 x (omega arith) (omega arith),
  all_from P xs zero (λ k d low high. all (suc k) d (omega arith) (omega (arith, high))),
)
all_from P (x ∷ xs) (suc i) all =
    all_from P xs i (λ k d low high. all (suc k) d (omega (arith, low)) (omega (arith, high)))

module _ (a : Archived) (name : List ℕ) where
  -- the file of a mark is below the name
  abbrev pub is_below : FileLine → Bool
  is_below m = is_lt (slice_cmp nat_cmp (name_of a m.name) name)

  abbrev pub is_here : FileLine → Bool
  is_here m = is_in name (place_in a m)

  abbrev Later : Place → Place → Type 0
  Later p q = slice_cmp nat_cmp (place_key p) (place_key q) ≡ Less

  all_at : (P : Place → Type 0) (ms : List FileLine) (j : ℕ) (d : FileLine)
      → AllByRecursion P (places_in a ms) → j < length ms
      → P (place_in a (get_or ms j d))
  all_at P [] j d all within = absurd (omega (arith, within))
  all_at P (m ∷ ms) zero d all within = all.0
  all_at P (m ∷ ms) (suc j) d all within = all_at P ms j d all.1 (omega (arith, within))

  -- those below the name come first
  pub marks_parted : (ms : List FileLine) → AreAscending (places_in a ms)
      → IsPartitionedBy is_below ms
  unfolding IsStrictlySortedBy
  marks_parted [] up i j d le within is = absurd (omega (arith, within))
  marks_parted (m ∷ ms) up zero zero d le within is = is
  marks_parted (m ∷ ms) up zero (suc j) d le within is =
      let later = all_at (Later (place_in a m)) ms j d up.0 (omega (arith, within)) in
      ap is_lt (lower_first (name_of a m.name) (name_of a (get_or ms j d).name) name
      (not_after (place_in a m) (place_in a (get_or ms j d)) later) (less-from _ is))
  marks_parted (m ∷ ms) up (suc i) zero d le within is = absurd (omega (arith, le))
  marks_parted (m ∷ ms) up (suc i) (suc j) d le within is =
      marks_parted ms up.1 i j d (omega (arith, le)) (omega (arith, within)) is

  -- none of them is in the file
  none_before : (ms : List FileLine) (i : ℕ) → AllWithin (λ m. is_below m ≡ true) ms 0 i
      → i ≤ length ms
      → filter (is_in name) (places_in a ms) ≡ filter (is_in name) (places_in a (drop i ms))
  none_before ms zero below within = refl
  none_before [] (suc i) below within = absurd (omega (arith, within))
  none_before (m ∷ ms) (suc i) below within =
      let here : is_here m ≡ false =
      sym (is_eq-slice_cmp (name_of a m.name) name)
      ∙ lower_differs _ (below 0 m (omega arith) (omega arith)) in
      ap (λ b. cond b (place_in a m ∷ filter (is_in name) (places_in a ms))
      (filter (is_in name) (places_in a ms))) here
      ∙ none_before ms i (λ k d low high. below (suc k) d (omega arith) (omega (arith, high)))
      (omega (arith, within))

  pub ascend_after : (ms : List FileLine) (i : ℕ) → AreAscending (places_in a ms)
      → AreAscending (places_in a (drop i ms))
  unfolding IsStrictlySortedBy
  ascend_after ms zero up = up
  ascend_after [] (suc i) up = up
  ascend_after (m ∷ ms) (suc i) up = ascend_after ms i up.1

  pub all_out : (m : FileLine) (ms : List FileLine)
      → slice_cmp nat_cmp name (name_of a m.name) ≡ Less
      → AllByRecursion (Later (place_in a m)) (places_in a ms)
      → AllByRecursion (λ q. is_in name q ≡ false) (places_in a ms)
  all_out m [] above all = tt
  all_out m (n ∷ ms) above all = (
    less_apart name (name_of a n.name)
        (less_then name (name_of a m.name) (name_of a n.name) above
        (not_after (place_in a m) (place_in a n) all.0)),
    all_out m ms above all.1,
  )

  pub one_more : (n : ℕ) → 1 + n ≡ suc n
  one_more n = omega arith

  -- those at the front that are in the file are all of them
  at_front : (ms : List FileLine) → AreAscending (places_in a ms)
      → AllByRecursion (λ m. is_below m ≡ false) ms
      → map (λ (m : FileLine). m.line) (take (prefix_len is_here ms) ms)
      ≡ marked_lines name (places_in a ms)
  unfolding IsStrictlySortedBy
  at_front [] up above = refl
  at_front (m ∷ ms) up above = by_test (is_here m) refl (at_front ms up.1 above.1)
    where
      by_test : (b : Bool) → is_here m ≡ b
          → map (λ (m : FileLine). m.line) (take (prefix_len is_here ms) ms)
          ≡ marked_lines name (places_in a ms)
          → map (λ (m : FileLine). m.line) (take (prefix_len is_here (m ∷ ms)) (m ∷ ms))
          ≡ marked_lines name (places_in a (m ∷ ms))
      by_test true is later =
          rw is (ap (λ n. map (λ (m : FileLine). m.line) (take n (m ∷ ms)))
          (one_more (prefix_len is_here ms))
          ∙ ap (λ l. m.line ∷ l) later)
      by_test false is later =
          let higher : slice_cmp nat_cmp name (name_of a m.name) ≡ Less =
          strictly name (name_of a m.name) (no_lower (name_of a m.name) name above.0) is in
          rw is (ap (map (λ (p : Place). p.line))
          (sym (none_left name (places_in a ms) (all_out m ms higher up.0))))

  -- the marks of the file
  module _ (ms : List FileLine) (up : AreAscending (places_in a ms)) (i : ℕ)
      (within : i ≤ length ms)
      (before : AllWithin (λ m. is_below m ≡ true) ms 0 i)
      (after : AllWithin (λ m. is_below m ≡ false) ms i (length ms)) where
    pub lines_found : map (λ (m : FileLine). m.line)
        (take (prefix_len is_here (drop i ms)) (drop i ms)) ≡ marked_lines name (places_in a ms)
    lines_found =
        at_front (drop i ms) (ascend_after ms i up) (all_from (λ m. is_below m ≡ false) ms i after)
        ∙ ap (map (λ (p : Place). p.line)) (sym (none_before ms i before within))

  -- their lines ascend
  pub lines_rise : (places : List Place) → AreAscending places
      → IsStrictlySortedBy nat_cmp (marked_lines name places)
  lines_rise places up =
      lines_strict name (filter (is_in name) places) (all-passed (is_in name) places)
      (IsStrictlySortedBy-filter (λ (p q : Place). slice_cmp nat_cmp (place_key p) (place_key q))
      (is_in name) places up)
