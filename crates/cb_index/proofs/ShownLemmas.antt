-- Files in the order of their names, which a name parts.
use Rattle.std.proofs.Common.{◌≡◌, ◌∙◌, ◌≤◌, ◌<◌, ◌+◌, ℕ, zero, suc, Bool, true, false, List, []}
use Rattle.std.proofs.Common.{◌∷◌, ◌++◌, Some, None, refl, sym, ap, subst, length, take, drop, filter}
use Rattle.std.proofs.Common.{get_or, cond, nat_eq, drop-cons, arith, ⊎_elim, ◌⊎◌}
use Rattle.std.proofs.Math.Seq.{drop-append-add, take-append-add}
use Rattle.std.proofs.lemmas.Bool.{true≢false, false≢true}
use Rattle.std.proofs.lemmas.Bool.Decides.{Decides-eqb}
use Rattle.std.proofs.lemmas.Cmp.{nat_list_cmp_total, tied_itself}
use Rattle.std.proofs.lemmas.List.{drop-append-le, length-append, length-take-le, take-append-drop}
use Rattle.std.proofs.lemmas.List.{take-append-le, take_all}
use Rattle.std.proofs.lemmas.Map.Text.{is_eq-slice_cmp}
use Rattle.std.proofs.lemmas.Slice.Eq.{bytes_eq-Decides}
use Rattle.std.specs.Prelude.{not}
use Rattle.std.specs.Cmp.Lexicographic.{slice_cmp}
use Rattle.std.specs.List.{AllByRecursion}
use Rattle.std.specs.List.Sorted.{IsPartitionPoint}
use Rattle.std.specs.Ordering.{is_eq, is_gt, is_lt, nat_cmp, ordering_reverse}
use Rattle.std.specs.declared.cmp.Ordering.{Ordering}
use Rattle.std.specs.declared.cmp.Ordering.TheVariants.{Less, Equal, Greater}
use Rattle.cb_scan.specs.Order.{AreOrdered, put}
use Rattle.cb_index.specs.Archived.{Archived, name_of}
use Rattle.cb_index.specs.Blocks.{AreParted, before, joined}
use Rattle.cb_index.specs.Files.{AreAscending, shown_name, shown_under}
use Rattle.cb_index.specs.declared.entry.Shown.{Shown}
use Rattle.cb_index.specs.steps.Bounds.{is_below, is_up_to}
use Rattle.cb_scan.proofs.WithinLemmas.{all-append}
use Rattle.cb_index.proofs.BlockLemmas.{Lists, back_at, before_fits}
use Rattle.cb_index.proofs.SortedLemmas.{all_behind, all_right, all_upto, of_dropped}

abbrev Names : List ℕ → List ℕ → Ordering
Names = slice_cmp nat_cmp

-- ---- two names
less_from : (o : Ordering) → is_lt o ≡ true → o ≡ Less
less_from Less is = refl
less_from Equal is = absurd (false≢true is)
less_from Greater is = absurd (false≢true is)

same_name : (x y : List ℕ) → Names x y ≡ Equal → x ≡ y
same_name x y is = (bytes_eq-Decides x y).0 (sym (is_eq-slice_cmp x y) ∙ ap is_eq is)

turned : (o : Ordering) → is_gt (ordering_reverse o) ≡ is_lt o
turned Less = refl
turned Equal = refl
turned Greater = refl

pub above_is_below : (x y : List ℕ) → is_gt (Names x y) ≡ is_lt (Names y x)
above_is_below x y = ap is_gt (nat_list_cmp_total.antisymm x y) ∙ turned (Names y x)

-- a name below one that is not above another
below_through : (x y z : List ℕ) → Names x y ≡ Less → not (is_gt (Names y z)) ≡ true
    → Names x z ≡ Less
below_through x y z less is = by_order (Names y z) refl is
  where
    by_order : (o : Ordering) → Names y z ≡ o → not (is_gt o) ≡ true → Names x z ≡ Less
    by_order Less eq le = nat_list_cmp_total.trans x y z less eq
    by_order Equal eq le = subst (λ n. Names x n ≡ Less) (same_name y z eq) less
    by_order Greater eq le = absurd (false≢true le)

-- ---- what parts files
module _ (a : Archived) where
  abbrev Less_than : Shown → Shown → Type 0
  Less_than s t = Names (name_of a s.name) (name_of a t.name) ≡ Less

  module _ (p : Shown → Bool) (mono : (s t : Shown) → Less_than s t → p t ≡ true → p s ≡ true) where
    later_fail : (s : Shown) (shown : List Shown) → p s ≡ false → AllByRecursion (Less_than s) shown
        → AllByRecursion (λ t. p t ≡ false) shown
    later_fail s [] isnt up = tt
    later_fail s (t ∷ shown) isnt up = (by_test (p t) refl, later_fail s shown isnt up.1)
      where
        by_test : (b : Bool) → p t ≡ b → p t ≡ false
        by_test true is = absurd (true≢false (sym (mono s t up.0 is) ∙ isnt))
        by_test false is = is

    ascending_parts : (shown : List Shown) → AreAscending a shown → AreParted p shown
    unfolding AreOrdered
    ascending_parts [] up = tt
    ascending_parts (s ∷ shown) up =
        ((λ isnt. later_fail s shown isnt up.0), ascending_parts shown up.1)

  pub below_parts : (name : List ℕ) (shown : List Shown) → AreAscending a shown
      → AreParted (is_below a name) shown
  below_parts name shown up =
      ascending_parts (is_below a name)
      (λ s t less is. ap is_lt (nat_list_cmp_total.trans (name_of a s.name) (name_of a t.name) name
      less (less_from (Names (name_of a t.name) name) is)))
      shown up

  pub up_to_parts : (name : List ℕ) (shown : List Shown) → AreAscending a shown
      → AreParted (is_up_to a name) shown
  up_to_parts name shown up =
      ascending_parts (is_up_to a name)
      (λ s t less is. ap (λ o. not (is_gt o))
      (below_through (name_of a s.name) (name_of a t.name) name less is))
      shown up

  -- a version that comes before all that are not below it is put
  pub put_between : (one : Shown) (n : ℕ) (shown : List Shown)
      → AllByRecursion (λ s. is_below a (name_of a one.name) s ≡ true) (take n shown)
      → AllByRecursion (λ s. is_below a (name_of a one.name) s ≡ false) (drop n shown)
      → take n shown ++ one ∷ drop n shown ≡ put (shown_name a) one shown
  unfolding put
  put_between one zero [] ahead behind = refl
  put_between one (suc n) [] ahead behind = refl
  put_between one zero (s ∷ shown) ahead behind =
      sym (ap (λ b. cond (not b) (one ∷ s ∷ shown) (s ∷ put (shown_name a) one shown))
      (above_is_below (name_of a one.name) (name_of a s.name) ∙ behind.0))
  put_between one (suc n) (s ∷ shown) ahead behind =
      ap (λ l. s ∷ l) (put_between one n shown ahead.1 behind)
      ∙ sym (ap (λ b. cond (not b) (one ∷ s ∷ shown) (s ∷ put (shown_name a) one shown))
      (above_is_below (name_of a one.name) (name_of a s.name) ∙ ahead.0))

  -- ---- the file under the number of a name
  module _ (name : ℕ) where
    abbrev pub IsOther : Shown → Type 0
    IsOther s = nat_eq s.name name ≡ false

    abbrev pub stays : Shown → Bool
    stays s = not (nat_eq s.name name)

    other_name : (s : Shown) → (Names (name_of a s.name) (name_of a name) ≡ Equal → ⊥) → IsOther s
    other_name s apart = by_test (nat_eq s.name name) refl
      where
        by_test : (b : Bool) → nat_eq s.name name ≡ b → b ≡ false
        by_test true is =
            absurd (apart (ap (λ n. Names (name_of a n) (name_of a name))
            ((Decides-eqb s.name name).0 is)
            ∙ tied_itself nat_list_cmp_total (name_of a name)))
        by_test false is = refl

    less_differs : (o : Ordering) → o ≡ Less → o ≡ Equal → ⊥
    less_differs o less is = true≢false (sym (ap is_lt less) ∙ ap is_lt is)

    up_to_differs : (o : Ordering) → not (is_gt o) ≡ false → o ≡ Equal → ⊥
    up_to_differs o above is = true≢false (sym (ap (λ p. not (is_gt p)) is) ∙ above)

    front_others : (e : Shown) (front back : List Shown) → AreAscending a (front ++ e ∷ back)
        → is_up_to a (name_of a name) e ≡ true → AllByRecursion IsOther front
    unfolding AreOrdered
    front_others e [] back up here = tt
    front_others e (s ∷ front) back up here = (
      other_name s (less_differs _ (below_through (name_of a s.name) (name_of a e.name)
          (name_of a name) (at_end front up.0) here)),
      front_others e front back up.1 here,
    )
      where
        at_end : (ts : List Shown) → AllByRecursion (Less_than s) (ts ++ e ∷ back) → Less_than s e
        at_end [] all = all.0
        at_end (t ∷ ts) all = at_end ts all.1

    pub back_others : (back : List Shown)
        → AllByRecursion (λ s. is_up_to a (name_of a name) s ≡ false) back
        → AllByRecursion IsOther back
    back_others [] behind = tt
    back_others (s ∷ back) behind =
        (other_name s (up_to_differs _ behind.0), back_others back behind.1)

    -- where all have other numbers, none is under this one
    pub none_under : (shown : List Shown) → AllByRecursion IsOther shown
        → None ≡ shown_under name shown
    none_under [] others = refl
    none_under (s ∷ shown) others =
        none_under shown others.1
        ∙ ap (λ b. cond b (Some s) (shown_under name shown)) (sym others.0)

    pub all_stay : (shown : List Shown) → AllByRecursion IsOther shown
        → shown ≡ filter stays shown
    all_stay [] others = refl
    all_stay (s ∷ shown) others =
        ap (λ l. s ∷ l) (all_stay shown others.1)
        ∙ ap (λ b. cond (not b) (s ∷ filter stays shown) (filter stays shown)) (sym others.0)

    -- the file that stands between others is under this number, or none is
    module _ (front back : List Shown) (e : Shown) (up : AreAscending a (front ++ e ∷ back))
        (here : is_up_to a (name_of a name) e ≡ true)
        (behind : AllByRecursion (λ s. is_up_to a (name_of a name) s ≡ false) back) where
      same_number : e.name ≡ name → nat_eq e.name name ≡ true
      same_number is = (Decides-eqb e.name name).1 is

      one_under : (xs : List Shown) → AllByRecursion IsOther xs → e.name ≡ name
          → Some e ≡ shown_under name (xs ++ e ∷ back)
      one_under [] others is =
          sym (ap (λ b. cond b (Some e) (shown_under name back)) (same_number is))
      one_under (s ∷ xs) others is =
          one_under xs others.1 is
          ∙ ap (λ b. cond b (Some s) (shown_under name (xs ++ e ∷ back))) (sym others.0)

      pub found_under : e.name ≡ name → Some e ≡ shown_under name (front ++ e ∷ back)
      found_under is = one_under front (front_others e front back up here) is

      one_goes : (xs : List Shown) → AllByRecursion IsOther xs → e.name ≡ name
          → xs ++ back ≡ filter stays (xs ++ e ∷ back)
      one_goes [] others is =
          all_stay back (back_others back behind)
          ∙ sym (ap (λ b. cond (not b) (e ∷ filter stays back) (filter stays back))
          (same_number is))
      one_goes (s ∷ xs) others is =
          ap (λ l. s ∷ l) (one_goes xs others.1 is)
          ∙ ap (λ b. cond (not b) (s ∷ filter stays (xs ++ e ∷ back))
          (filter stays (xs ++ e ∷ back))) (sym others.0)

      pub goes_alone : e.name ≡ name → front ++ back ≡ filter stays (front ++ e ∷ back)
      goes_alone is = one_goes front (front_others e front back up here) is

      other_here : (e.name ≡ name → ⊥) → IsOther e
      other_here isnt = by_test (nat_eq e.name name) refl
        where
          by_test : (b : Bool) → nat_eq e.name name ≡ b → b ≡ false
          by_test true is = absurd (isnt ((Decides-eqb e.name name).0 is))
          by_test false is = refl

      all_others : (xs : List Shown) → AllByRecursion IsOther xs → (e.name ≡ name → ⊥)
          → AllByRecursion IsOther (xs ++ e ∷ back)
      all_others [] others isnt = (other_here isnt, back_others back behind)
      all_others (s ∷ xs) others isnt = (others.0, all_others xs others.1 isnt)

      pub none_here : (e.name ≡ name → ⊥) → AllByRecursion IsOther (front ++ e ∷ back)
      none_here isnt = all_others front (front_others e front back up here) isnt

-- ---- places
module _ {X : Type 0} (P Q : X → Type 0) where
  of_taken : (n k : ℕ) (xs : List X) (d : X) → k < n → k < length xs
      → AllByRecursion P (take n xs) → P (get_or xs k d)
  of_taken zero k xs d low below all = absurd (omega (arith, low))
  of_taken (suc n) k [] d low below all = absurd (omega (arith, below))
  of_taken (suc n) zero (x ∷ xs) d low below all = all.0
  of_taken (suc n) (suc k) (x ∷ xs) d low below all =
      of_taken n k xs d (omega (arith, low)) (omega (arith, below)) all.1

  -- what is of all elements up to a place and of all behind it
  pub point_of : (n : ℕ) (xs : List X) → n ≤ length xs → AllByRecursion P (take n xs)
      → AllByRecursion Q (drop n xs) → IsPartitionPoint P Q xs n
  point_of n xs within ahead behind = (
    (λ k d low high. of_taken n k xs d high (omega (arith, high, within)) ahead),
    (λ k d low high. of_dropped Q n k xs d low high behind),
  )

-- the element at a place, and those around it
pub split_there : {T : Type 0} (bs : Lists T) (k i : ℕ) (d : T) → k < length bs
    → i < length (get_or bs k [])
    → joined bs ≡ take (before bs k i) (joined bs)
    ++ get_or (get_or bs k []) i d ∷ drop (before bs k (suc i)) (joined bs)
split_there bs k i d low within =
    sym (take-append-drop (before bs k i) (joined bs))
    ∙ ap (λ l. take (before bs k i) (joined bs) ++ l)
    (back_at bs k i low (omega (arith, within))
    ∙ ap (λ l. l ++ joined (drop (suc k) bs)) (drop-cons (get_or bs k []) i d within)
    ∙ ap (λ l. get_or (get_or bs k []) i d ∷ l)
    (sym (back_at bs k (suc i) low (omega (arith, within)))))

-- ---- the file at a place, which may be under the number of a name
module _ (a : Archived) (name : ℕ) (bs : Lists Shown) (k i : ℕ) (low : k < length bs)
    (within : i < length (get_or bs k [])) (up : AreAscending a (joined bs))
    (ahead : AllByRecursion (λ s. is_up_to a (name_of a name) s ≡ true)
    (take (before bs k (suc i)) (joined bs)))
    (behind : AllByRecursion (λ s. is_up_to a (name_of a name) s ≡ false)
    (drop (before bs k (suc i)) (joined bs)))
    (e : Shown) (is : e ≡ get_or (get_or bs k []) i e) where
  abbrev front : List Shown
  front = take (before bs k i) (joined bs)

  abbrev back : List Shown
  back = drop (before bs k (suc i)) (joined bs)

  whole : joined bs ≡ front ++ e ∷ back
  whole = split_there bs k i e low within ∙ ap (λ x. front ++ x ∷ back) (sym is)

  at_front : (xs : List Shown)
      → AllByRecursion (λ s. is_up_to a (name_of a name) s ≡ true)
      (take (suc (length xs)) (xs ++ e ∷ back))
      → is_up_to a (name_of a name) e ≡ true
  at_front [] all = all.0
  at_front (x ∷ xs) all = at_front xs all.1

  reached : is_up_to a (name_of a name) e ≡ true
  reached =
      let size : length front ≡ before bs k i =
      length-take-le (before bs k i) (joined bs)
      (before_fits bs k i low (omega (arith, within))) in
      let next : before bs k (suc i) ≡ suc (length front) = omega (arith, size) in
      at_front front (subst (λ l. AllByRecursion (λ s. is_up_to a (name_of a name) s ≡ true)
      (take (suc (length front)) l)) whole
      (subst (λ n. AllByRecursion (λ s. is_up_to a (name_of a name) s ≡ true)
      (take n (joined bs))) next ahead))

  split_up : AreAscending a (front ++ e ∷ back)
  split_up = subst (AreAscending a) whole up

  pub place_found : e.name ≡ name → Some e ≡ shown_under name (joined bs)
  place_found here =
      found_under a name front back e split_up reached behind here
      ∙ ap (shown_under name) (sym whole)

  pub place_taken : e.name ≡ name
      → take (before bs k i) (joined bs) ++ drop (suc (before bs k i)) (joined bs)
      ≡ filter (stays a name) (joined bs)
  place_taken here =
      let next : suc (before bs k i) ≡ before bs k (suc i) = omega arith in
      ap (λ n. front ++ drop n (joined bs)) next
      ∙ goes_alone a name front back e split_up reached behind here
      ∙ ap (filter (stays a name)) (sym whole)

  pub place_other : (e.name ≡ name → ⊥) → AllByRecursion (IsOther a name) (joined bs)
  place_other isnt =
      subst (AllByRecursion (IsOther a name)) (sym whole)
      (none_here a name front back e split_up reached behind isnt)

-- ---- where files go on from a place
module _ {X : Type 0} (p : X → Bool) where
  -- behind what fails all fail
  parts_behind : (n : ℕ) (xs ys : List X) → AreParted p (xs ++ ys) → n < length xs
      → AllByRecursion (λ x. p x ≡ false) (drop n xs) → AllByRecursion (λ x. p x ≡ false) ys
  parts_behind n [] ys q some fail = absurd (omega (arith, some))
  parts_behind zero (x ∷ xs) ys q some fail = all_right p xs ys (q.0 fail.0)
  parts_behind (suc n) (x ∷ xs) ys q some fail =
      parts_behind n xs ys q.1 (omega (arith, some)) fail

  -- from a place in the first of them
  pub from_first : (n : ℕ) (xs ys : List X) → AreParted p (xs ++ ys) → n ≤ length xs
      → IsPartitionPoint (λ x. p x ≡ true) (λ x. p x ≡ false) xs n
      → (n < length xs) ⊎ (ys ≡ [])
      → IsPartitionPoint (λ x. p x ≡ true) (λ x. p x ≡ false) (xs ++ ys) n
  from_first n xs ys q within point more =
      let inner = all_behind (λ x. p x ≡ false) n xs point.1 in
      let size = length-append xs ys in
      point_of (λ x. p x ≡ true) (λ x. p x ≡ false) n (xs ++ ys) (omega (arith, within, size))
      (subst (AllByRecursion (λ x. p x ≡ true)) (sym (take-append-le n xs ys within))
      (all_upto (λ x. p x ≡ true) n xs within point.0))
      (subst (AllByRecursion (λ x. p x ≡ false)) (sym (drop-append-le n xs ys within))
      (all-append (λ x. p x ≡ false) (drop n xs) ys inner
      (⊎_elim (λ some. parts_behind n xs ys q some inner)
      (λ none. subst (AllByRecursion (λ x. p x ≡ false)) (sym none) tt) more)))

  -- from a place in the blocks behind
  pub from_blocks : (n m : ℕ) (xs ys : List X) → n ≡ length xs → m ≤ length ys
      → IsPartitionPoint (λ x. p x ≡ true) (λ x. p x ≡ false) xs n
      → AllByRecursion (λ x. p x ≡ true) (take m ys)
      → AllByRecursion (λ x. p x ≡ false) (drop m ys)
      → IsPartitionPoint (λ x. p x ≡ true) (λ x. p x ≡ false) (xs ++ ys) (length xs + m)
  from_blocks n m xs ys full within point ahead behind =
      let size = length-append xs ys in
      let all : AllByRecursion (λ x. p x ≡ true) (take n xs) =
      all_upto (λ x. p x ≡ true) n xs (omega (arith, full)) point.0 in
      point_of (λ x. p x ≡ true) (λ x. p x ≡ false) (length xs + m) (xs ++ ys)
      (omega (arith, within, size))
      (subst (AllByRecursion (λ x. p x ≡ true)) (sym (take-append-add xs ys m))
      (all-append (λ x. p x ≡ true) xs (take m ys)
      (subst (AllByRecursion (λ x. p x ≡ true)) (take_all n xs (omega (arith, full)))
      all) ahead))
      (subst (AllByRecursion (λ x. p x ≡ false)) (sym (drop-append-add xs ys m)) behind)

pub all_later : {X : Type 0} (P : X → Type 0) (n : ℕ) (xs : List X) → AllByRecursion P xs
    → AllByRecursion P (drop n xs)
all_later P zero xs all = all
all_later P (suc n) [] all = all
all_later P (suc n) (x ∷ xs) all = all_later P n xs all.1

pub nil_joined : {T : Type 0} (bs : Lists T) → length bs ≡ 0 → joined bs ≡ []
nil_joined [] none = refl
nil_joined (b ∷ bs) none = absurd (omega (arith, none))

pub ascending_later : (a : Archived) (n : ℕ) (shown : List Shown) → AreAscending a shown
    → AreAscending a (drop n shown)
unfolding AreOrdered
ascending_later a zero shown up = up
ascending_later a (suc n) [] up = up
ascending_later a (suc n) (s ∷ shown) up = ascending_later a n shown up.1
