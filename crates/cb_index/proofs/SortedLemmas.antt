-- Sorted lists to which an element comes or from which one goes.
use Rattle.std.proofs.Common.{◌≡◌, ◌∙◌, ◌≤◌, ◌<◌, ◌+◌, ℕ, zero, suc, Bool, true, false, List, []}
use Rattle.std.proofs.Common.{◌∷◌, ◌++◌, refl, sym, ap, subst, length, take, drop, drop-cons}
use Rattle.std.proofs.Common.{get_or, arith, ⊎_elim}
use Rattle.std.proofs.lemmas.Bool.{cases_Bool, cases_lt, true≢false}
use Rattle.std.proofs.lemmas.List.Sums.{sum_by-append, sum_by-cons, sum_by-take-drop}
use Rattle.std.specs.Prelude.{cond, sum_by}
use Rattle.std.specs.List.{AllByRecursion, AllWithin}
use Rattle.cb_scan.specs.Order.{goes_first, in_order, put}
use Rattle.cb_scan.proofs.OrderLemmas.{Sorted, both_first, goes_itself, in_order_sorted}
use Rattle.cb_scan.proofs.OrderLemmas.{in_order_sum, other_first, unique}
use Rattle.cb_index.specs.Blocks.{AreParted}

-- ---- from places to parts, and back
module _ {X : Type 0} (P : X → Type 0) where
  pub all_upto : (n : ℕ) (xs : List X) → n ≤ length xs → AllWithin P xs 0 n
      → AllByRecursion P (take n xs)
  all_upto zero xs within all = tt
  all_upto (suc n) [] within all = tt
  all_upto (suc n) (x ∷ xs) within all = (
    all 0 x (omega arith) (omega arith),
    all_upto n xs (omega (arith, within))
        (λ k d low below. all (suc k) d (omega arith) (omega (arith, below))),
  )

  pub all_behind : (n : ℕ) (xs : List X) → AllWithin P xs n (length xs)
      → AllByRecursion P (drop n xs)
  all_behind zero [] all = tt
  all_behind zero (x ∷ xs) all = (
    all 0 x (omega arith) (omega arith),
    all_behind zero xs (λ k d low below. all (suc k) d (omega arith) (omega (arith, below))),
  )
  all_behind (suc n) [] all = tt
  all_behind (suc n) (x ∷ xs) all =
      all_behind n xs (λ k d low below. all (suc k) d (omega (arith, low)) (omega (arith, below)))

  pub last_taken : (n : ℕ) (xs : List X) (d : X) → n < length xs
      → AllByRecursion P (take (suc n) xs) → P (get_or xs n d)
  last_taken n [] d below all = absurd (omega (arith, below))
  last_taken zero (x ∷ xs) d below all = all.0
  last_taken (suc n) (x ∷ xs) d below all = last_taken n xs d (omega (arith, below)) all.1

  pub of_dropped : (n p : ℕ) (xs : List X) (d : X) → n ≤ p → p < length xs
      → AllByRecursion P (drop n xs) → P (get_or xs p d)
  of_dropped n p [] d low below all = absurd (omega (arith, below))
  of_dropped zero zero (x ∷ xs) d low below all = all.0
  of_dropped zero (suc p) (x ∷ xs) d low below all =
      of_dropped zero p xs d (omega arith) (omega (arith, below)) all.1
  of_dropped (suc n) zero (x ∷ xs) d low below all = absurd (omega (arith, low))
  of_dropped (suc n) (suc p) (x ∷ xs) d low below all =
      of_dropped n p xs d (omega (arith, low)) (omega (arith, below)) all

  all_inserted : (n : ℕ) (xs : List X) (x : X) → P x → AllByRecursion P xs
      → AllByRecursion P (take n xs ++ x ∷ drop n xs)
  all_inserted zero xs x here all = (here, all)
  all_inserted (suc n) [] x here all = (here, tt)
  all_inserted (suc n) (y ∷ ys) x here all = (all.0, all_inserted n ys x here all.1)

  all_without : (n : ℕ) (xs : List X) → AllByRecursion P xs
      → AllByRecursion P (take n xs ++ drop (suc n) xs)
  all_without zero [] all = tt
  all_without zero (x ∷ xs) all = all.1
  all_without (suc n) [] all = tt
  all_without (suc n) (x ∷ xs) all = (all.0, all_without n xs all.1)

module _ {X : Type 0} (key : X → List ℕ) where
  abbrev pub First : X → X → Type 0
  First x y = goes_first key x y ≡ true

  -- ---- an element comes in
  pub turned : (y : X) (xs : List X) → AllByRecursion (λ x. goes_first key x y ≡ false) xs
      → AllByRecursion (First y) xs
  turned y [] a = tt
  turned y (x ∷ xs) a = (other_first (key x) (key y) (key x) a.0, turned y xs a.1)

  inserted_sorted : (n : ℕ) (xs : List X) (x : X) → Sorted key xs
      → AllByRecursion (λ y. First y x) (take n xs)
      → AllByRecursion (First x) (drop n xs) → Sorted key (take n xs ++ x ∷ drop n xs)
  inserted_sorted zero xs x s ahead behind = (behind, s)
  inserted_sorted (suc n) [] x s ahead behind = (tt, tt)
  inserted_sorted (suc n) (y ∷ ys) x s ahead behind =
      (all_inserted (First y) n ys x ahead.0 s.0, inserted_sorted n ys x s.1 ahead.1 behind)

  -- ---- an element goes
  without_sorted : (n : ℕ) (xs : List X) → Sorted key xs → Sorted key (take n xs ++ drop (suc n) xs)
  without_sorted zero [] s = tt
  without_sorted zero (x ∷ xs) s = s.1
  without_sorted (suc n) [] s = tt
  without_sorted (suc n) (x ∷ xs) s = (all_without (First x) n xs s.0, without_sorted n xs s.1)

  -- an element that is put is there
  pub record IsAt (x : X) (xs : List X) : Type 0 where
    pub place : ℕ
    pub within : place < length xs
    pub is : (d : X) → get_or xs place d ≡ x

  put_there : (x : X) (ys : List X) → IsAt x (put key x ys)
  unfolding put
  put_there x [] = record { place = 0; within = omega arith; is = λ d. refl }
  put_there x (y ∷ ys) =
      elim (goes_first key x y) as (λ b. IsAt x (cond b (x ∷ y ∷ ys) (y ∷ put key x ys))) [
        | true ↦ record { place = 0; within = omega arith; is = λ d. refl }
        | false ↦ let later = put_there x ys in
            record { place = suc later.place; within = omega (arith, later.within); is = later.is }
      ]

  pub there : (x : X) (rest : List X) → IsAt x (in_order key (x ∷ rest))
  unfolding in_order
  there x rest = put_there x (in_order key rest)

  -- ---- places in a sorted list
  all_at : (P : X → Type 0) (xs : List X) → AllByRecursion P xs → (k : ℕ) (d : X) → k < length xs
      → P (get_or xs k d)
  all_at P [] all k d below = absurd (omega (arith, below))
  all_at P (x ∷ xs) all zero d below = all.0
  all_at P (x ∷ xs) all (suc k) d below = all_at P xs all.1 k d (omega (arith, below))

  pub earlier_first : (xs : List X) → Sorted key xs → (i j : ℕ) (d : X) → i ≤ j → j < length xs
      → goes_first key (get_or xs i d) (get_or xs j d) ≡ true
  earlier_first [] s i j d upward below = absurd (omega (arith, below))
  earlier_first (x ∷ xs) s zero zero d upward below = goes_itself key x
  earlier_first (x ∷ xs) s zero (suc j) d upward below =
      all_at (λ y. goes_first key x y ≡ true) xs s.0 j d (omega (arith, below))
  earlier_first (x ∷ xs) s (suc i) zero d upward below = absurd (omega (arith, upward))
  earlier_first (x ∷ xs) s (suc i) (suc j) d upward below =
      earlier_first xs s.1 i j d (omega (arith, upward)) (omega (arith, below))

  module _ (exact : (x y : X) → key x ≡ key y → x ≡ y) where
    -- a sorted list is itself in order
    pub sorted_same : (xs : List X) → Sorted key xs → in_order key xs ≡ xs
    sorted_same xs s =
        unique key exact (in_order key xs) xs (in_order_sorted key xs) s
        (λ f. in_order_sum key f xs)

    -- a list in order is in order
    pub order_again : (xs : List X) → in_order key xs ≡ in_order key (in_order key xs)
    order_again xs = sym (sorted_same (in_order key xs) (in_order_sorted key xs))

    -- what is inserted behind all that go before it is in order
    pub inserted_is : (n : ℕ) (xs : List X) (x : X) → Sorted key xs
        → AllByRecursion (λ y. goes_first key y x ≡ true) (take n xs)
        → AllByRecursion (λ y. goes_first key y x ≡ false) (drop n xs)
        → take n xs ++ x ∷ drop n xs ≡ in_order key (xs ++ x ∷ [])
    inserted_is n xs x s ahead behind =
        unique key exact (take n xs ++ x ∷ drop n xs) (in_order key (xs ++ x ∷ []))
        (inserted_sorted n xs x s ahead (turned x (drop n xs) behind))
        (in_order_sorted key (xs ++ x ∷ []))
        (λ f.
        let whole = sum_by-append f (take n xs) (x ∷ drop n xs) in
        let one = sum_by-cons f x (drop n xs) in
        let parts = sum_by-take-drop f xs n in
        let sorted = in_order_sum key f (xs ++ x ∷ []) in
        let more = sum_by-append f xs (x ∷ []) in
        let single = sum_by-cons f x [] in
        omega (arith, whole, one, parts, sorted, more, single))

    -- of what goes before an element, the last is the element itself
    last_is : (n : ℕ) (xs : List X) (x d : X) → Sorted key xs → IsAt x xs → n < length xs
        → AllByRecursion (λ y. goes_first key y x ≡ true) (take (suc n) xs)
        → AllByRecursion (λ y. goes_first key y x ≡ false) (drop (suc n) xs) → get_or xs n d ≡ x
    last_is n xs x d s at below ahead behind =
        let first : goes_first key (get_or xs n d) x ≡ true =
        last_taken (λ y. goes_first key y x ≡ true) n xs d below ahead in
        ⊎_elim
        (λ late. absurd (true≢false (sym (goes_itself key x)
        ∙ subst (λ y. goes_first key y x ≡ false) (at.is d)
        (of_dropped (λ y. goes_first key y x ≡ false) (suc n) at.place xs d
        (omega (arith, late)) at.within behind))))
        (λ early. exact (get_or xs n d) x (both_first (key (get_or xs n d)) (key x) (key x) first
        (subst (λ y. goes_first key y (get_or xs n d) ≡ true) (at.is d)
        (earlier_first xs s at.place n d (omega (arith, early)) below))))
        (cases_lt n at.place)

    -- an element that is taken leaves the others in order
    pub taken_is : (n : ℕ) (rest xs : List X) (x d : X) → xs ≡ in_order key (x ∷ rest)
        → n < length xs
        → AllByRecursion (λ y. goes_first key y x ≡ true) (take (suc n) xs)
        → AllByRecursion (λ y. goes_first key y x ≡ false) (drop (suc n) xs)
        → take n xs ++ drop (suc n) xs ≡ in_order key rest
    taken_is n rest xs x d is below ahead behind =
        let s : Sorted key xs = subst (Sorted key) (sym is) (in_order_sorted key (x ∷ rest)) in
        let here : get_or xs n d ≡ x =
        last_is n xs x d s (subst (IsAt x) (sym is) (there x rest)) below ahead behind in
        unique key exact (take n xs ++ drop (suc n) xs) (in_order key rest) (without_sorted n xs s)
        (in_order_sorted key rest)
        (λ f.
        let whole = sum_by-append f (take n xs) (drop (suc n) xs) in
        let parts = sum_by-take-drop f xs n in
        let next : sum_by f (drop n xs) ≡ f x + sum_by f (drop (suc n) xs) =
        ap (sum_by f) (drop-cons xs n d below) ∙ sum_by-cons f (get_or xs n d) (drop (suc n) xs)
        ∙ ap (λ y. f y + sum_by f (drop (suc n) xs)) here in
        let held : sum_by f xs ≡ sum_by f (x ∷ rest) =
        ap (sum_by f) is ∙ in_order_sum key f (x ∷ rest) in
        let one = sum_by-cons f x rest in
        let sorted = in_order_sum key f rest in
        omega (arith, whole, parts, next, held, one, sorted))

  -- what is there does not stand behind all that go before it
  pub some_ahead : (rest xs : List X) (x : X) → xs ≡ in_order key (x ∷ rest)
      → AllByRecursion (λ y. goes_first key y x ≡ false) xs → true ≡ false
  some_ahead rest xs x is none =
      let at : IsAt x xs = subst (IsAt x) (sym is) (there x rest) in
      absurd (true≢false (sym (goes_itself key x)
      ∙ subst (λ y. goes_first key y x ≡ false) (at.is x)
      (of_dropped (λ y. goes_first key y x ≡ false) zero at.place xs x
      (omega arith) at.within none)))

-- ---- a test that what comes later passes only where what comes earlier does
module _ {X : Type 0} (p : X → Bool) where
  pub parts_sorted : (key : X → List ℕ)
      → ((x y : X) → goes_first key x y ≡ true → p y ≡ true → p x ≡ true) → (xs : List X)
      → Sorted key xs → AreParted p xs
  parts_sorted key mono [] s = tt
  parts_sorted key mono (x ∷ xs) s = ((λ isnt. later isnt xs s.0), parts_sorted key mono xs s.1)
    where
      later : p x ≡ false → (ys : List X) → AllByRecursion (λ y. goes_first key x y ≡ true) ys
          → AllByRecursion (λ y. p y ≡ false) ys
      later isnt [] a = tt
      later isnt (y ∷ ys) a = (
        ⊎_elim (λ is. absurd (true≢false (sym (mono x y a.0 is) ∙ isnt)))
            (λ no. no) (cases_Bool (p y)),
        later isnt ys a.1,
      )

  pub parts_left : (xs ys : List X) → AreParted p (xs ++ ys) → AreParted p xs
  parts_left [] ys q = tt
  parts_left (x ∷ xs) ys q = ((λ isnt. front xs (q.0 isnt)), parts_left xs ys q.1)
    where
      front : (zs : List X) → AllByRecursion (λ y. p y ≡ false) (zs ++ ys)
          → AllByRecursion (λ y. p y ≡ false) zs
      front [] a = tt
      front (z ∷ zs) a = (a.0, front zs a.1)

  pub parts_right : (xs ys : List X) → AreParted p (xs ++ ys) → AreParted p ys
  parts_right [] ys q = q
  parts_right (x ∷ xs) ys q = parts_right xs ys q.1

  pub all_right : (xs ys : List X) → AllByRecursion (λ y. p y ≡ false) (xs ++ ys)
      → AllByRecursion (λ y. p y ≡ false) ys
  all_right [] ys a = a
  all_right (x ∷ xs) ys a = all_right xs ys a.1

  -- the same by places
  pub parts_places : (xs : List X) → AreParted p xs → (i j : ℕ) (d : X) → i ≤ j → j < length xs
      → p (get_or xs j d) ≡ true → p (get_or xs i d) ≡ true
  parts_places [] q i j d upward below is = absurd (omega (arith, below))
  parts_places (x ∷ xs) q zero zero d upward below is = is
  parts_places (x ∷ xs) q zero (suc j) d upward below is =
      ⊎_elim (λ yes-x. yes-x)
      (λ isnt. absurd (true≢false (sym is
      ∙ of_dropped (λ y. p y ≡ false) zero j xs d (omega arith) (omega (arith, below)) (q.0 isnt))))
      (cases_Bool (p x))
  parts_places (x ∷ xs) q (suc i) zero d upward below is = absurd (omega (arith, upward))
  parts_places (x ∷ xs) q (suc i) (suc j) d upward below is =
      parts_places xs q.1 i j d (omega (arith, upward)) (omega (arith, below)) is
