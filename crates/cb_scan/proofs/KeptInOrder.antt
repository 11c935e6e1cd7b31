-- What passes a test of a list in order is in order what passes it of the list.
use Rattle.std.proofs.Common.{◌≡◌, ◌∙◌, ℕ, Bool, true, false, List, [], ◌∷◌, refl, sym, ap, ⊎_elim}
use Rattle.std.proofs.lemmas.Bool.{cases_Bool}
use Rattle.std.specs.Prelude.{cond, filter, if◌then◌else◌}
use Rattle.std.specs.List.{AllByRecursion}
use Rattle.cb_scan.specs.Order.{goes_first, in_order, put}
use Rattle.cb_scan.proofs.OrderLemmas.{Sorted, all_first, in_order_sorted}

module _ {X : Type 0} (key : X → List ℕ) (test : X → Bool) where
  abbrev First : X → List X → Type 0
  First x ys = AllByRecursion (λ z. goes_first key x z ≡ true) ys

  kept_first : (x : X) (ys : List X) → First x ys → First x (filter test ys)
  kept_first x [] all = tt
  kept_first x (y ∷ ys) all =
      elim (test y) as (λ b. First x (cond b (y ∷ filter test ys) (filter test ys)))
      [ true ↦ (all.0, kept_first x ys all.1) | false ↦ kept_first x ys all.1 ]

  put_front : (x : X) (ys : List X) → First x ys → put key x ys ≡ x ∷ ys
  unfolding put
  put_front x [] all = refl
  put_front x (y ∷ ys) all = ap (λ b. cond b (x ∷ y ∷ ys) (y ∷ put key x ys)) all.0

  put_later : (x y : X) (ys : List X) → goes_first key x y ≡ false → put key x (y ∷ ys) ≡ y ∷ put key x ys
  unfolding put
  put_later x y ys later = ap (λ b. cond b (x ∷ y ∷ ys) (y ∷ put key x ys)) later

  put_kept : (x : X) (ys : List X) → Sorted key ys
      → filter test (put key x ys) ≡ (if test x then put key x (filter test ys) else filter test ys)
  unfolding put
  put_kept x [] s = refl
  put_kept x (y ∷ ys) s =
      ⊎_elim
      (λ first.
      ap (λ b. filter test (cond b (x ∷ y ∷ ys) (y ∷ put key x ys))) first
      ∙ ap (λ l. if test x then l else filter test (y ∷ ys))
      (sym (put_front x (filter test (y ∷ ys)) (kept_first x (y ∷ ys) (first, all_first key x y ys first s.0)))))
      (λ later.
      ap (λ b. filter test (cond b (x ∷ y ∷ ys) (y ∷ put key x ys))) later
      ∙ ap (λ l. if test y then y ∷ l else l) (put_kept x ys s.1)
      ∙ by_tests later (test x) (test y))
      (cases_Bool (goes_first key x y))
    where
      by_tests : goes_first key x y ≡ false → (a b : Bool)
          → (if b then y ∷ (if a then put key x (filter test ys) else filter test ys)
          else (if a then put key x (filter test ys) else filter test ys))
          ≡ (if a then put key x (if b then y ∷ filter test ys else filter test ys)
          else (if b then y ∷ filter test ys else filter test ys))
      by_tests later true true = sym (put_later x y (filter test ys) later)
      by_tests later true false = refl
      by_tests later false true = refl
      by_tests later false false = refl

  pub kept_in_order : (xs : List X) → filter test (in_order key xs) ≡ in_order key (filter test xs)
  unfolding in_order
  kept_in_order [] = refl
  kept_in_order (x ∷ xs) =
      put_kept x (in_order key xs) (in_order_sorted key xs)
      ∙ ap (λ l. if test x then put key x l else l) (kept_in_order xs)
      ∙ by_test (test x)
    where
      by_test : (a : Bool) → (if a then put key x (in_order key (filter test xs)) else in_order key (filter test xs))
          ≡ in_order key (if a then x ∷ filter test xs else filter test xs)
      by_test true = refl
      by_test false = refl
