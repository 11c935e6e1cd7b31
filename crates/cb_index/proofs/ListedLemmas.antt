-- The list of the versions that are shown.
use Rattle.std.proofs.Common.{◌≡◌, ◌∙◌, ◌<◌, ◌+◌, ℕ, zero, suc, Bool, true, false, List, []}
use Rattle.std.proofs.Common.{◌∷◌, ◌++◌, drop, refl, sym, ap, append-nil, subst, length, get_or, cond}
use Rattle.std.proofs.Common.{arith, ⊎_elim}
use Rattle.std.proofs.lemmas.Bool.{and_parts, cases_Bool, true≢false, false≢true}
use Rattle.std.proofs.lemmas.Bool.Decides.{nat_tests}
use Rattle.std.proofs.lemmas.Cmp.{nat_list_cmp_total, tied_itself}
use Rattle.std.proofs.lemmas.List.Sums.{sum_by-append, sum_by-cons}
use Rattle.std.proofs.lemmas.Map.Text.{is_eq-slice_cmp}
use Rattle.std.proofs.lemmas.Slice.Eq.{bytes_eq-Decides}
use Rattle.std.specs.Prelude.{nat_lt, not, sum_by, ◌||◌, ◌&&◌}
use Rattle.std.specs.Cmp.Lexicographic.{slice_cmp}
use Rattle.std.specs.List.{AllAdjacentBelow, IsAllAdjacentAnswer, AllByRecursion, AllWithin}
use Rattle.std.specs.List.{list_all, list_any}
use Rattle.std.specs.Ordering.{is_eq, is_gt, is_lt, nat_cmp, ordering_then}
use Rattle.std.specs.Str.{bytes_eq}
use Rattle.std.specs.declared.cmp.Ordering.{Ordering}
use Rattle.std.specs.declared.cmp.Ordering.TheVariants.{Less, Equal, Greater}
use Rattle.cb_scan.specs.Order.{AreOrdered, goes_first, in_order, put}
use Rattle.cb_scan.proofs.FactsWithin.{all_in_order}
use Rattle.cb_scan.proofs.FunctionsRise.{all_implied}
use Rattle.cb_scan.proofs.KeyOrder.{both_equal, ended, same_number}
use Rattle.cb_scan.proofs.OrderLemmas.{Sorted}
use Rattle.cb_scan.proofs.WithinLemmas.{all-append}
use Rattle.cb_index.specs.Archived.{Archived, name_of}
use Rattle.cb_index.specs.Files.{AreApart, AreAscending, IsThere, is_shown, shown_key, shown_name}
use Rattle.cb_index.specs.declared.entry.Shown.{Shown}
use Rattle.cb_index.proofs.InOrderLemmas.{in_order_agree, same_order}
use Rattle.cb_index.proofs.AscendLemmas.{After, ascending_put, ascending_sorted, before_all, others}
use Rattle.cb_index.proofs.AscendLemmas.{split_or, strict}
use Rattle.cb_index.specs.steps.Bounds.{is_below}
use Rattle.cb_index.proofs.ShownLemmas.{above_is_below}

abbrev Names : List ℕ → List ℕ → Ordering
Names = slice_cmp nat_cmp

abbrev numbers : Shown → List ℕ
numbers s = s.name ∷ s.version ∷ []

-- ---- two versions
module _ (a : Archived) (s t : Shown) where
  pub shown_cmp : ordering_then (Names (name_of a s.name) (name_of a t.name))
      (Names (numbers s) (numbers t))
      ≡ Names (shown_key a s) (shown_key a t)
  shown_cmp = sym (ended (name_of a s.name) (name_of a t.name) (numbers s) (numbers t))

  -- no two versions are equal in order
  pub shown_exact : shown_key a s ≡ shown_key a t → s ≡ t
  shown_exact same =
      let tied : Names (shown_key a s) (shown_key a t) ≡ Equal =
      subst (λ x. Names (shown_key a s) x ≡ Equal) same
      (tied_itself nat_list_cmp_total (shown_key a s)) in
      let first =
      both_equal (Names (name_of a s.name) (name_of a t.name)) (Names (numbers s) (numbers t))
      (shown_cmp ∙ tied) in
      let name = both_equal (nat_cmp s.name t.name) _ first.1 in
      let version = both_equal (nat_cmp s.version t.version) _ name.1 in
      λ i. record {
        name = same_number s.name t.name name.0 i;
        version = same_number s.version t.version version.0 i;
      }

  -- of two that have not one file name the numbers say nothing
  name_settles : bytes_eq (name_of a s.name) (name_of a t.name) ≡ false
      → goes_first (shown_key a) s t ≡ goes_first (shown_name a) s t
  name_settles other = by_order (Names (name_of a s.name) (name_of a t.name)) refl
    where
      by_order : (o : Ordering) → Names (name_of a s.name) (name_of a t.name) ≡ o
          → goes_first (shown_key a) s t ≡ goes_first (shown_name a) s t
      by_order Less is =
          ap (λ p. not (is_gt p))
          (sym shown_cmp ∙ ap (λ p. ordering_then p (Names (numbers s) (numbers t))) is ∙ sym is)
      by_order Equal is =
          absurd (true≢false
          (sym (sym (is_eq-slice_cmp (name_of a s.name) (name_of a t.name)) ∙ ap is_eq is) ∙ other))
      by_order Greater is =
          ap (λ p. not (is_gt p))
          (sym shown_cmp ∙ ap (λ p. ordering_then p (Names (numbers s) (numbers t))) is ∙ sym is)

-- ---- names that are apart
pub bytes_other : (x y : List ℕ) → Names x y ≡ Less → bytes_eq x y ≡ false
bytes_other x y less = sym (is_eq-slice_cmp x y) ∙ ap is_eq less

pub other_turned : (x y : List ℕ) → bytes_eq x y ≡ false → bytes_eq y x ≡ false
other_turned x y isnt =
    ⊎_elim (λ is.
    absurd (true≢false (sym ((bytes_eq-Decides x y).1 (sym ((bytes_eq-Decides y x).0 is))) ∙ isnt)))
    (λ is. is)
    (cases_Bool (bytes_eq y x))

module _ (a : Archived) where
  abbrev pub IsApart : Shown → Shown → Type 0
  IsApart s t = bytes_eq (name_of a s.name) (name_of a t.name) ≡ false

  all_settled : (s : Shown) (shown : List Shown) → AllByRecursion (IsApart s) shown
      → AllByRecursion
      (λ (t : Shown). goes_first (shown_key a) s t ≡ goes_first (shown_name a) s t) shown
  all_settled s [] apart = tt
  all_settled s (t ∷ shown) apart = (name_settles a s t apart.0, all_settled s shown apart.1)

  settled : (shown : List Shown) → AreApart a shown
      → AreOrdered
      (λ (s t : Shown). goes_first (shown_key a) s t ≡ goes_first (shown_name a) s t) shown
  unfolding AreOrdered
  settled [] apart = tt
  settled (s ∷ shown) apart = (all_settled s shown apart.0, settled shown apart.1)

  -- they are in one order by name alone and with their numbers
  pub order_by_name : (shown : List Shown) → AreApart a shown
      → in_order (shown_key a) shown ≡ in_order (shown_name a) shown
  order_by_name shown apart =
      in_order_agree (shown_key a) (shown_name a) shown (settled shown apart)

  -- in order their names ascend
  pub ascending_in_order : (shown : List Shown) → AreApart a shown
      → AreAscending a (in_order (shown_name a) shown)
  unfolding in_order AreOrdered
  ascending_in_order [] apart = tt
  ascending_in_order (s ∷ shown) apart =
      ascending_put a s (in_order (shown_name a) shown)
      (all_in_order (shown_name a) (IsApart s) shown apart.0)
      (ascending_in_order shown apart.1)

  -- ---- old and new ones
  later_apart : (s : Shown) (shown : List Shown) → AllByRecursion (After a s s) shown
      → AllByRecursion (IsApart s) shown
  later_apart s [] up = tt
  later_apart s (t ∷ shown) up =
      (bytes_other (name_of a s.name) (name_of a t.name) up.0, later_apart s shown up.1)

  pub ascending_apart : (shown : List Shown) → AreAscending a shown → AreApart a shown
  unfolding AreOrdered
  ascending_apart [] up = tt
  ascending_apart (s ∷ shown) up = (later_apart s shown up.0, ascending_apart shown up.1)

  pub none_shown : (old news : List Shown) → list_any (is_shown a old) news ≡ false
      → AllByRecursion (λ n. AllByRecursion (IsApart n) old) news
  none_shown old [] none = tt
  none_shown old (n ∷ news) none =
      let parts = split_or a n (is_shown a old n) (list_any (is_shown a old) news) none in
      (others a n old parts.0, none_shown old news parts.1)

  pub apart_append : (old news : List Shown) → AreApart a old → AreApart a news
      → AllByRecursion (λ n. AllByRecursion (IsApart n) old) news → AreApart a (old ++ news)
  unfolding AreOrdered
  apart_append [] news front back across = back
  apart_append (s ∷ old) news front back across = (
    all-append (IsApart s) old news front.0
        (all_implied (λ n. AllByRecursion (IsApart n) (s ∷ old)) (IsApart s)
        (λ n is. other_turned (name_of a n.name) (name_of a s.name) is.0) news across),
    apart_append old news front.1 back
        (all_implied (λ n. AllByRecursion (IsApart n) (s ∷ old))
        (λ n. AllByRecursion (IsApart n) old) (λ n is. is.1) news across),
  )

  -- no file name stands twice among those that are shown and those that can be
  pub apart_both : (old news : List Shown) → AreAscending a old → AreApart a news
      → list_any (is_shown a old) news ≡ false
      → AreApart a (old ++ news)
  apart_both old news up apart none =
      apart_append old news (ascending_apart old up) apart (none_shown old news none)

  still : (xs : List Shown) → Sorted (shown_name a) xs → in_order (shown_name a) xs ≡ xs
  unfolding in_order AreOrdered put
  still [] sorted = refl
  still (x ∷ xs) sorted = ap (put (shown_name a) x) (still xs sorted.1) ∙ first_put x xs sorted.0
    where
      first_put : (x : Shown) (xs : List Shown)
          → AllByRecursion (λ y. goes_first (shown_name a) x y ≡ true) xs
          → put (shown_name a) x xs ≡ x ∷ xs
      first_put x [] all = refl
      first_put x (y ∷ ys) all = ap (λ b. cond b (x ∷ y ∷ ys) (y ∷ put (shown_name a) x ys)) all.0

  -- none more leaves all as they are
  pub none_more : (old : List Shown) → AreAscending a old
      → old ≡ in_order (shown_name a) (old ++ [])
  none_more old up =
      sym (ap (in_order (shown_name a)) (append-nil old) ∙ still old (ascending_sorted a old up))

  -- one version more is in order where it is put
  module _ (old : List Shown) (s : Shown) (up : AreAscending a old)
      (apart : AreApart a (old ++ s ∷ [])) where
    from_last : (xs : List Shown) → AreApart a (xs ++ s ∷ []) → AllByRecursion (IsApart s) xs
    unfolding AreOrdered
    from_last [] is = tt
    from_last (x ∷ xs) is =
        (other_turned (name_of a x.name) (name_of a s.name) (at_end xs is.0), from_last xs is.1)
      where
        at_end : (ys : List Shown) → AllByRecursion (IsApart x) (ys ++ s ∷ []) → IsApart x s
        at_end [] all = all.0
        at_end (y ∷ ys) all = at_end ys all.1

    apart_first : AreApart a (s ∷ old)
    unfolding AreOrdered
    apart_first = (from_last old apart, ascending_apart old up)

    same_members : (f : Shown → ℕ) → sum_by f (s ∷ old) ≡ sum_by f (old ++ s ∷ [])
    same_members f =
        let both = sum_by-append f old (s ∷ []) in
        let one = sum_by-cons f s [] in
        let first = sum_by-cons f s old in
        omega (arith, both, one, first)

    pub put_last : put (shown_name a) s old ≡ in_order (shown_name a) (old ++ s ∷ [])
    unfolding in_order
    put_last =
        ap (put (shown_name a) s) (sym (still old (ascending_sorted a old up)))
        ∙ sym (order_by_name (s ∷ old) apart_first)
        ∙ same_order (shown_key a) (shown_exact a) (s ∷ old) (old ++ s ∷ []) same_members
        ∙ order_by_name (old ++ s ∷ []) apart

-- ---- whether a file is shown
greater_other : (x y : List ℕ) → is_gt (Names x y) ≡ true → bytes_eq x y ≡ false
greater_other x y above = by_order (Names x y) refl above
  where
    by_order : (o : Ordering) → Names x y ≡ o → is_gt o ≡ true → bytes_eq x y ≡ false
    by_order Less is gt = absurd (false≢true gt)
    by_order Equal is gt = absurd (false≢true gt)
    by_order Greater is gt = sym (is_eq-slice_cmp x y) ∙ ap is_eq is

module _ (a : Archived) (s : Shown) where
  abbrev pub is_here : Shown → Bool
  is_here t = bytes_eq (name_of a s.name) (name_of a t.name)

  none_after : (shown : List Shown) → AllByRecursion (After a s s) shown
      → list_any is_here shown ≡ false
  none_after [] up = refl
  none_after (t ∷ shown) up =
      ap (λ b. b || list_any is_here shown) (bytes_other (name_of a s.name) (name_of a t.name) up.0)
      ∙ none_after shown up.1

  -- files whose names are below have other names
  pub any_from : (n : ℕ) (shown : List Shown)
      → AllWithin (λ t. is_below a (name_of a s.name) t ≡ true) shown 0 n
      → list_any is_here shown ≡ list_any is_here (drop n shown)
  any_from zero shown before = refl
  any_from (suc n) [] before = refl
  any_from (suc n) (t ∷ shown) before =
      ap (λ b. b || list_any is_here shown)
      (greater_other (name_of a s.name) (name_of a t.name)
      (above_is_below (name_of a s.name) (name_of a t.name)
      ∙ before 0 t (omega arith) (omega arith)))
      ∙ any_from n shown (λ k e low below. before (suc k) e (omega arith) (omega (arith, below)))

  -- the first that is not below settles whether the name is there
  pub first_settles : (t : Shown) (more : List Shown) → AreAscending a (t ∷ more)
      → is_below a (name_of a s.name) t ≡ false
      → is_here t ≡ list_any is_here (t ∷ more)
  unfolding AreOrdered
  first_settles t more up isnt_below =
      ⊎_elim (λ is. is ∙ sym (ap (λ b. b || list_any is_here more) is))
      (λ isnt.
      let less =
      strict a s (name_of a s.name) (name_of a t.name)
      (ap not (above_is_below (name_of a s.name) (name_of a t.name) ∙ isnt_below)) isnt in
      isnt ∙ sym (ap (λ b. b || list_any is_here more) isnt
      ∙ none_after more (before_all a s t more less up.0)))
      (cases_Bool (is_here t))

-- ---- numbers that are there
module _ (a : Archived) where
  pub there_if : (shown : List Shown)
      → list_all (λ (s : Shown).
      nat_lt s.name (length a.names) && nat_lt s.version (length a.texts)) shown ≡ true
      → AllByRecursion (IsThere a) shown
  there_if [] all = tt
  there_if (s ∷ shown) all =
      let parts =
      and_parts (nat_lt s.name (length a.names) && nat_lt s.version (length a.texts)) _ all in
      let here =
      and_parts (nat_lt s.name (length a.names)) (nat_lt s.version (length a.texts)) parts.0 in (
        (less s.name (length a.names) here.0, less s.version (length a.texts) here.1),
        there_if shown parts.1,
      )
    where
      less : (x y : ℕ) → nat_lt x y ≡ true → x < y
      less x y is = grind (arith, nat_tests)

  -- neighbours whose names ascend
  pub ascending_if : (shown : List Shown)
      → AllAdjacentBelow (λ (s t : Shown).
      true ≡ is_lt (Names (name_of a s.name) (name_of a t.name))) shown (length shown)
      → AreAscending a shown
  unfolding AreOrdered
  ascending_if [] up = tt
  ascending_if (s ∷ []) up = (tt, tt)
  ascending_if (s ∷ t ∷ shown) up =
      let later : AreAscending a (t ∷ shown) =
      ascending_if (t ∷ shown) (λ k d below. let step : suc k + 1 ≡ suc (k + 1) = omega arith in
      subst (λ m. true ≡ is_lt (Names (name_of a (get_or (t ∷ shown) k d).name)
      (name_of a (get_or (s ∷ t ∷ shown) m d).name)))
      step (up (suc k) d (omega (arith, below)))) in
      let first =
      less_if (Names (name_of a s.name) (name_of a t.name)) (sym (up 0 s (omega arith))) in
      ((first, before_all a s t shown first later.0), later)
    where
      less_if : (o : Ordering) → is_lt o ≡ true → o ≡ Less
      less_if Less is = refl
      less_if Equal is = absurd (false≢true is)
      less_if Greater is = absurd (false≢true is)

  -- and the other way round
  pub ascending_at : (shown : List Shown) → AreAscending a shown → (k : ℕ) (d : Shown)
      → k + 1 < length shown
      → is_lt (Names (name_of a (get_or shown k d).name) (name_of a (get_or shown (k + 1) d).name))
      ≡ true
  unfolding AreOrdered
  ascending_at [] up k d below = absurd (omega (arith, below))
  ascending_at (s ∷ []) up k d below = absurd (omega (arith, below))
  ascending_at (s ∷ t ∷ shown) up zero d below = ap is_lt up.0.0
  ascending_at (s ∷ t ∷ shown) up (suc k) d below =
      let step : suc k + 1 ≡ suc (k + 1) = omega arith in
      subst (λ m. is_lt (Names (name_of a (get_or (t ∷ shown) k d).name)
      (name_of a (get_or (s ∷ t ∷ shown) m d).name)) ≡ true) (sym step)
      (ascending_at (t ∷ shown) up.1 k d (omega (arith, below)))

  pub ascending_answer : (news : List Shown) (b : Bool) → AreAscending a news
      → IsAllAdjacentAnswer
      (λ (s t : Shown) r. r ≡ is_lt (Names (name_of a s.name) (name_of a t.name))) news b → b ≡ true
  ascending_answer news true up answer = refl
  ascending_answer news false up answer =
      let none : Shown = record { name = 0; version = 0 } in
      absurd (false≢true (answer.2 none ∙ ascending_at news up answer.0 none answer.1))

  pub there_is : (news : List Shown) → AllByRecursion (IsThere a) news
      → list_all (λ (s : Shown).
      nat_lt s.name (length a.names) && nat_lt s.version (length a.texts)) news ≡ true
  there_is [] all = refl
  there_is (s ∷ news) all =
      both (nat_lt s.name (length a.names)) (nat_lt s.version (length a.texts))
      (less s.name (length a.names) all.0.0) (less s.version (length a.texts) all.0.1)
      (there_is news all.1)
    where
      less : (x y : ℕ) → x < y → nat_lt x y ≡ true
      less x y is = grind (arith, nat_tests, is)

      both : (p q : Bool) → p ≡ true → q ≡ true → list_all (λ (s : Shown).
          nat_lt s.name (length a.names) && nat_lt s.version (length a.texts)) news ≡ true
          → ((p && q) && list_all (λ (s : Shown).
          nat_lt s.name (length a.names) && nat_lt s.version (length a.texts)) news) ≡ true
      both true true is-p is-q later = later
      both true false is-p is-q later = absurd (false≢true is-q)
      both false q is-p is-q later = absurd (false≢true is-p)
