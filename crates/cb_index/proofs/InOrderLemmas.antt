-- Lists in the order of a key.
use Rattle.std.proofs.Common.{◌≡◌, ◌∙◌, ◌+◌, ℕ, suc, Bool, true, false, List, []}
use Rattle.std.proofs.Common.{◌∷◌, refl, sym, ap, length, map, filter}
use Rattle.std.proofs.Common.{arith}
use Rattle.std.proofs.lemmas.Bool.{true≢false}
use Rattle.std.proofs.lemmas.List.Sums.{sum_by-append, sum_by-cons}
use Rattle.std.specs.Prelude.{cond, not, sum_by}
use Rattle.std.specs.Cmp.Lexicographic.{slice_cmp}
use Rattle.std.specs.List.{AllByRecursion, flat_map}
use Rattle.std.specs.Ordering.{is_gt, nat_cmp}
use Rattle.cb_scan.specs.Order.{AreOrdered, goes_first, in_order, put}
use Rattle.cb_scan.proofs.FactsWithin.{all_in_order}
use Rattle.cb_scan.proofs.OrderLemmas.{Sorted, in_order_sorted}
use Rattle.cb_scan.proofs.OrderLemmas.{in_order_sum, put_sum, unique}

-- ---- what stays and what goes
module _ {X : Type 0} (p : X → Bool) where
  pub sum_filter : (f : X → ℕ) (xs : List X)
      → sum_by f (filter p xs) ≡ sum_by (λ x. cond (p x) (f x) 0) xs
  sum_filter f [] = refl
  sum_filter f (x ∷ xs) =
      here (p x) (sum_filter f xs) ∙ sym (sum_by-cons (λ y. cond (p y) (f y) 0) x xs)
    where
      here : (b : Bool) → sum_by f (filter p xs) ≡ sum_by (λ y. cond (p y) (f y) 0) xs
          → sum_by f (cond b (x ∷ filter p xs) (filter p xs))
          ≡ cond b (f x) 0 + sum_by (λ y. cond (p y) (f y) 0) xs
      here true later = sum_by-cons f x (filter p xs) ∙ ap (λ n. f x + n) later
      here false later = omega (arith, later)

  pub all_filter : (P : X → Type 0) (xs : List X) → AllByRecursion P xs
      → AllByRecursion P (filter p xs)
  all_filter P [] a = tt
  all_filter P (x ∷ xs) a =
      elim (p x) as (λ b. AllByRecursion P (cond b (x ∷ filter p xs) (filter p xs)))
      [ true ↦ (a.0, all_filter P xs a.1) | false ↦ all_filter P xs a.1 ]

  sorted_filter : (key : X → List ℕ) (xs : List X) → Sorted key xs → Sorted key (filter p xs)
  sorted_filter key [] s = tt
  sorted_filter key (x ∷ xs) s =
      elim (p x) as (λ b. Sorted key (cond b (x ∷ filter p xs) (filter p xs))) [
        | true ↦ (all_filter (λ y. goes_first key x y ≡ true) xs s.0, sorted_filter key xs s.1)
        | false ↦ sorted_filter key xs s.1
      ]

-- ---- one order
module _ {X : Type 0} (key : X → List ℕ) (exact : (x y : X) → key x ≡ key y → x ≡ y) where
  -- lists with the same elements are one list in order
  pub same_order : (xs ys : List X) → ((f : X → ℕ) → sum_by f xs ≡ sum_by f ys)
      → in_order key xs ≡ in_order key ys
  same_order xs ys same =
      unique key exact (in_order key xs) (in_order key ys) (in_order_sorted key xs)
      (in_order_sorted key ys)
      (λ f. in_order_sum key f xs ∙ same f ∙ sym (in_order_sum key f ys))

  pub filter_in_order : (p : X → Bool) (xs : List X)
      → filter p (in_order key xs) ≡ in_order key (filter p xs)
  filter_in_order p xs =
      unique key exact (filter p (in_order key xs)) (in_order key (filter p xs))
      (sorted_filter p key (in_order key xs) (in_order_sorted key xs))
      (in_order_sorted key (filter p xs))
      (λ f. sum_filter p f (in_order key xs) ∙ in_order_sum key (λ x. cond (p x) (f x) 0) xs
      ∙ sym (sum_filter p f xs) ∙ sym (in_order_sum key f (filter p xs)))

-- ---- two keys
module _ {X : Type 0} (key other : X → List ℕ) where
  Agree : X → X → Type 0
  Agree x y = goes_first key x y ≡ goes_first other x y

  put_agree : (x : X) (ys : List X)
      → AllByRecursion (λ y. goes_first key x y ≡ goes_first other x y) ys
      → put key x ys ≡ put other x ys
  unfolding put
  put_agree x [] a = refl
  put_agree x (y ∷ ys) a = λ i. cond (a.0 i) (x ∷ y ∷ ys) (y ∷ put_agree x ys a.1 i)

  -- two keys that agree on elements that follow one another give one order
  pub in_order_agree : (xs : List X)
      → AreOrdered (λ x y. goes_first key x y ≡ goes_first other x y) xs
      → in_order key xs ≡ in_order other xs
  unfolding in_order AreOrdered
  in_order_agree [] a = refl
  in_order_agree (x ∷ xs) a =
      put_agree x (in_order key xs)
      (all_in_order key (λ y. goes_first key x y ≡ goes_first other x y) xs a.0)
      ∙ ap (put other x) (in_order_agree xs a.1)

  all_agree : (x : X) → key x ≡ other x → (ys : List X) → AllByRecursion (λ y. key y ≡ other y) ys
      → AllByRecursion (λ y. goes_first key x y ≡ goes_first other x y) ys
  all_agree x here [] a = tt
  all_agree x here (y ∷ ys) a =
      ((λ i. not (is_gt (slice_cmp nat_cmp (here i) (a.0 i)))), all_agree x here ys a.1)

  all_pairs_agree : (xs : List X) → AllByRecursion (λ x. key x ≡ other x) xs
      → AreOrdered (λ x y. goes_first key x y ≡ goes_first other x y) xs
  unfolding AreOrdered
  all_pairs_agree [] a = tt
  all_pairs_agree (x ∷ xs) a = (all_agree x a.0 xs a.1, all_pairs_agree xs a.1)

  -- keys that are equal on all elements give one order
  pub in_order_cong : (xs : List X) → AllByRecursion (λ x. key x ≡ other x) xs
      → in_order key xs ≡ in_order other xs
  in_order_cong xs a = in_order_agree xs (all_pairs_agree xs a)

-- ---- what is made of elements
module _ {X Y : Type 0} (key : X → List ℕ) (other : Y → List ℕ) (f : X → Y) where
  pub map_put : (x : X) → key x ≡ other (f x) → (ys : List X)
      → AllByRecursion (λ y. key y ≡ other (f y)) ys
      → map f (put key x ys) ≡ put other (f x) (map f ys)
  unfolding put
  map_put x here [] a = refl
  map_put x here (y ∷ ys) a =
      elim (goes_first key x y) as (λ b. map f (cond b (x ∷ y ∷ ys) (y ∷ put key x ys))
      ≡ cond b (f x ∷ f y ∷ map f ys) (f y ∷ map f (put key x ys))) [ true ↦ refl | false ↦ refl ]
      ∙ (λ i. cond (not (is_gt (slice_cmp nat_cmp (here i) (a.0 i)))) (f x ∷ f y ∷ map f ys)
      (f y ∷ map_put x here ys a.1 i))

  pub map_in_order : (xs : List X) → AllByRecursion (λ x. key x ≡ other (f x)) xs
      → map f (in_order key xs) ≡ in_order other (map f xs)
  unfolding in_order
  map_in_order [] a = refl
  map_in_order (x ∷ xs) a =
      map_put x a.0 (in_order key xs) (all_in_order key (λ y. key y ≡ other (f y)) xs a.1)
      ∙ ap (put other (f x)) (map_in_order xs a.1)

-- ---- elements that are already in order
module _ {X : Type 0} (key : X → List ℕ) (has : X → Bool) where
  put_in : (x : X) (ys : List X) → has x ≡ true
      → AllByRecursion (λ y. has x ≡ true → has y ≡ true → goes_first key x y ≡ true) ys
      → filter has (put key x ys) ≡ x ∷ filter has ys
  unfolding put
  put_in x [] is a = ap (λ b. cond b (x ∷ []) []) is
  put_in x (y ∷ ys) is a = by_test (goes_first key x y) (has y) refl refl (put_in x ys is a.1)
    where
      by_test : (b c : Bool) → goes_first key x y ≡ b → has y ≡ c
          → filter has (put key x ys) ≡ x ∷ filter has ys
          → filter has (put key x (y ∷ ys)) ≡ x ∷ filter has (y ∷ ys)
      by_test true c first holds later =
          ap (λ b. filter has (cond b (x ∷ y ∷ ys) (y ∷ put key x ys))) first
          ∙ ap (λ b. cond b (x ∷ filter has (y ∷ ys)) (filter has (y ∷ ys))) is
      by_test false true first holds later = absurd (true≢false (sym (a.0 is holds) ∙ first))
      by_test false false first holds later =
          ap (λ b. filter has (cond b (x ∷ y ∷ ys) (y ∷ put key x ys))) first
          ∙ ap (λ c. cond c (y ∷ filter has (put key x ys)) (filter has (put key x ys))) holds
          ∙ later
          ∙ sym (ap (λ c. x ∷ cond c (y ∷ filter has ys) (filter has ys)) holds)

  put_out : (x : X) (ys : List X) → has x ≡ false → filter has (put key x ys) ≡ filter has ys
  unfolding put
  put_out x [] isnt = ap (λ b. cond b (x ∷ []) []) isnt
  put_out x (y ∷ ys) isnt = by_test (goes_first key x y) refl (put_out x ys isnt)
    where
      by_test : (b : Bool) → goes_first key x y ≡ b → filter has (put key x ys) ≡ filter has ys
          → filter has (put key x (y ∷ ys)) ≡ filter has (y ∷ ys)
      by_test true first later =
          ap (λ b. filter has (cond b (x ∷ y ∷ ys) (y ∷ put key x ys))) first
          ∙ ap (λ b. cond b (x ∷ filter has (y ∷ ys)) (filter has (y ∷ ys))) isnt
      by_test false first later =
          ap (λ b. filter has (cond b (x ∷ y ∷ ys) (y ∷ put key x ys))) first
          ∙ ap (λ l. cond (has y) (y ∷ l) l) later

  -- what passes a test is not moved, if it is in order among itself
  pub filter_kept : (xs : List X)
      → AreOrdered (λ x y. has x ≡ true → has y ≡ true → goes_first key x y ≡ true) xs
      → filter has (in_order key xs) ≡ filter has xs
  unfolding in_order AreOrdered
  filter_kept [] a = refl
  filter_kept (x ∷ xs) a = by_test (has x) refl (filter_kept xs a.1)
    where
      by_test : (b : Bool) → has x ≡ b → filter has (in_order key xs) ≡ filter has xs
          → filter has (put key x (in_order key xs)) ≡ filter has (x ∷ xs)
      by_test true is later =
          put_in x (in_order key xs) is
          (all_in_order key (λ y. has x ≡ true → has y ≡ true → goes_first key x y ≡ true) xs a.0)
          ∙ ap (λ l. x ∷ l) later ∙ sym (ap (λ b. cond b (x ∷ filter has xs) (filter has xs)) is)
      by_test false isnt later =
          put_out x (in_order key xs) isnt ∙ later
          ∙ sym (ap (λ b. cond b (x ∷ filter has xs) (filter has xs)) isnt)

-- ---- sums and lengths
module _ {X Y : Type 0} (g : X → List Y) where
  pub sum_flat : (f : Y → ℕ) (xs : List X)
      → sum_by f (flat_map g xs) ≡ sum_by (λ x. sum_by f (g x)) xs
  sum_flat f [] = refl
  sum_flat f (x ∷ xs) =
      sum_by-append f (g x) (flat_map g xs) ∙ ap (λ n. sum_by f (g x) + n) (sum_flat f xs)
      ∙ sym (sum_by-cons (λ y. sum_by f (g y)) x xs)

  -- an element that is put adds what is made of it
  pub sum_flat_put : (key : X → List ℕ) (f : Y → ℕ) (x : X) (xs : List X)
      → sum_by f (flat_map g (put key x xs)) ≡ sum_by f (g x) + sum_by f (flat_map g xs)
  sum_flat_put key f x xs =
      sum_flat f (put key x xs) ∙ put_sum key (λ y. sum_by f (g y)) x xs
      ∙ ap (λ n. sum_by f (g x) + n) (sym (sum_flat f xs))

module _ {X : Type 0} (key : X → List ℕ) where
  pub length_put : (x : X) (ys : List X) → length (put key x ys) ≡ suc (length ys)
  unfolding put
  length_put x [] = refl
  length_put x (y ∷ ys) =
      elim (goes_first key x y) as
      (λ b. length (cond b (x ∷ y ∷ ys) (y ∷ put key x ys)) ≡ suc (suc (length ys)))
      [ true ↦ refl | false ↦ ap suc (length_put x ys) ]

  pub length_in_order : (xs : List X) → length (in_order key xs) ≡ length xs
  unfolding in_order
  length_in_order [] = refl
  length_in_order (x ∷ xs) = length_put x (in_order key xs) ∙ ap suc (length_in_order xs)
