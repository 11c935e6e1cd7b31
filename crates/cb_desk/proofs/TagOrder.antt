-- A list that is sorted, and that keeps elements of one key in the order of another list, is that
-- other list in order.
use Rattle.std.proofs.Common.{◌≡◌, ◌∙◌, refl, sym, ap, ℕ, Bool, true, false, not, ◌&&◌, cond, List}
use Rattle.std.proofs.Common.{[], ◌∷◌, filter, map, inl, inr}
use Rattle.std.proofs.lemmas.Bool.{cond-true, cond-false, cases_Bool, and_parts, not-true}
use Rattle.std.proofs.lemmas.Bool.{true≢false}
use Rattle.std.proofs.lemmas.Cmp.{nat_list_cmp_total}
use Rattle.std.proofs.lemmas.Fn.{always_returns_same}
use Rattle.std.proofs.lemmas.List.Sorted.{ranks_by}
use Rattle.std.specs.Borrow.{Bor}
use Rattle.std.specs.Fn.{Called, ComparesAs, Mut}
use Rattle.std.specs.List.{AllByRecursion}
use Rattle.std.specs.List.Sorted.{ties, IsSortedByClosure, IsStableByClosure}
use Rattle.std.specs.Ordering.{is_lt}
use Rattle.std.specs.declared.cmp.Ordering.{Ordering}
use Rattle.cb_scan.specs.Order.{goes_first, put, in_order}
use Rattle.cb_scan.proofs.OrderLemmas.{Keys, Sorted, both_first, not_less, goes_itself}
use Rattle.cb_scan.proofs.OrderLemmas.{in_order_sorted, neighbours}

filter-kept : {X : Type 0} (p : X → Bool) (y : X) (ys : List X) → p y ≡ true
    → filter p (y ∷ ys) ≡ y ∷ filter p ys
filter-kept p y ys h = cond-true _ _ _ h

filter-dropped : {X : Type 0} (p : X → Bool) (y : X) (ys : List X) → p y ≡ false
    → filter p (y ∷ ys) ≡ filter p ys
filter-dropped p y ys h = cond-false _ _ _ h

-- a test that does not pass two elements keeps a list alike, whichever of the two comes first
filter-exchange : {X : Type 0} (p : X → Bool) (x y : X) (ys : List X)
    → (p x ≡ true → p y ≡ true → x ≡ y) → filter p (y ∷ x ∷ ys) ≡ filter p (x ∷ y ∷ ys)
filter-exchange p x y ys apart =
    elim (cases_Bool (p x)) [
      | inr no_x ↦ ap (λ l. cond (p y) (y ∷ l) l) (filter-dropped p x ys no_x)
          ∙ sym (filter-dropped p x (y ∷ ys) no_x)
      | inl has_x ↦
          elim (cases_Bool (p y)) [
            | inr no_y ↦ filter-dropped p y (x ∷ ys) no_y
                ∙ ap (λ l. cond (p x) (x ∷ l) l) (sym (filter-dropped p y ys no_y))
            | inl has_y ↦ let same : x ≡ y = apart has_x has_y in
                λ i. filter p (sym same i ∷ same i ∷ ys)
          ]
    ]

module _ {X : Type 0} (key : X → List ℕ) where
  -- the key of one element is below that of another
  abbrev below : X → X → Bool
  below x y = is_lt (Keys (key x) (key y))

  ties_key : (x y : X) → ties below x y ≡ true → key x ≡ key y
  ties_key x y tie =
      let parts = and_parts (not (below x y)) (not (below y x)) tie in
      both_first (key x) (key y) (key x) (not_less (key x) (key y) (key x) (not-true _ parts.1))
      (not_less (key y) (key x) (key x) (not-true _ parts.0))

  not_below_itself : (x : X) → below x x ≡ false
  not_below_itself x =
      elim (cases_Bool (below x x))
      [ inl h ↦ (ranks_by nat_list_cmp_total key).one_way x x h | inr h ↦ h ]

  key_ties : (x y : X) → key x ≡ key y → ties below x y ≡ true
  key_ties x y same =
      ap (λ (k : List ℕ). not (is_lt (Keys (key x) k)) && not (is_lt (Keys k (key x)))) (sym same)
      ∙ ap (λ b. not b && not b) (not_below_itself x)

  first_at : (x y : X) → key x ≡ key y → goes_first key x y ≡ true
  first_at x y same =
      ap (λ (k : List ℕ). goes_first (λ (k : List ℕ). k) (key x) k) (sym same) ∙ goes_itself key x

  -- elements of one key stay as they are
  ties-put : (z x : X) (ys : List X)
      → filter (ties below z) (put key x ys) ≡ filter (ties below z) (x ∷ ys)
  unfolding put
  ties-put z x [] = refl
  ties-put z x (y ∷ ys) =
      let p = ties below z in
      elim (cases_Bool (goes_first key x y)) [
        | inl first ↦
            ap (filter p) (cond-true (goes_first key x y) (x ∷ y ∷ ys) (y ∷ put key x ys) first)
        | inr later ↦
            ap (filter p) (cond-false (goes_first key x y) (x ∷ y ∷ ys) (y ∷ put key x ys) later)
            ∙ ap (λ l. cond (p y) (y ∷ l) l) (ties-put z x ys)
            ∙ filter-exchange p x y ys (λ a b. absurd
            (true≢false (sym (first_at x y (sym (ties_key z x a) ∙ ties_key z y b)) ∙ later)))
      ]

  ties-in_order : (z : X) (xs : List X)
      → filter (ties below z) (in_order key xs) ≡ filter (ties below z) xs
  unfolding in_order
  ties-in_order z [] = refl
  ties-in_order z (x ∷ xs) =
      ties-put z x (in_order key xs)
      ∙ ap (λ l. cond (ties below z x) (x ∷ l) l) (ties-in_order z xs)

  -- what goes before all goes before a key that is found among them
  found_later : (w x : X) (ys : List X) (v : X) (vs : List X)
      → AllByRecursion (λ y. goes_first key w y ≡ true) ys → filter (ties below x) ys ≡ v ∷ vs
      → goes_first key w x ≡ true
  found_later w x [] v vs a e = cc
  found_later w x (y ∷ ys) v vs a e =
      elim (cases_Bool (ties below x y)) [
        | inl tie ↦ ap (λ (k : List ℕ). goes_first (λ (k : List ℕ). k) (key w) k) (ties_key x y tie)
            ∙ a.0
        | inr other ↦
            found_later w x ys v vs a.1 (sym (filter-dropped (ties below x) y ys other) ∙ e)
      ]

  -- sorted lists with the same elements of each key, in the same order
  same_ties : (ys zs : List X) → Sorted key ys → Sorted key zs
      → ((x : X) → filter (ties below x) ys ≡ filter (ties below x) zs) → ys ≡ zs
  same_ties [] [] s t same = refl
  same_ties [] (z ∷ zs) s t same =
      let clash = same z ∙ filter-kept (ties below z) z zs (key_ties z z refl) in cc
  same_ties (y ∷ ys) [] s t same =
      let clash = sym (same y) ∙ filter-kept (ties below y) y ys (key_ties y y refl) in cc
  same_ties (y ∷ ys) (z ∷ zs) s t same =
      let at_y = filter-kept (ties below y) y ys (key_ties y y refl) in
      let at_z = filter-kept (ties below z) z zs (key_ties z z refl) in
      let up = found_later z y (z ∷ zs) y _ (goes_itself key z, t.0) (sym (same y) ∙ at_y) in
      let down = found_later y z (y ∷ ys) z _ (goes_itself key y, s.0) (same z ∙ at_z) in
      let keys : key y ≡ key z = both_first (key y) (key z) (key y) down up in
      let heads = sym at_y ∙ same y ∙ filter-kept (ties below y) z zs (key_ties y z keys) in
      let head : y ≡ z = cc in
      let tails : (x : X) → filter (ties below x) ys ≡ filter (ties below x) zs =
      λ x. elim (cases_Bool (ties below x y)) [
        | inl with ↦
            let both =
            sym (filter-kept (ties below x) y ys with) ∙ same x
            ∙ filter-kept (ties below x) z zs (ap (ties below x) (sym head) ∙ with) in cc
        | inr without ↦
            sym (filter-dropped (ties below x) y ys without) ∙ same x
            ∙ filter-dropped (ties below x) z zs (ap (ties below x) (sym head) ∙ without)
      ] in
      ap (λ w. w ∷ ys) head ∙ ap (λ l. z ∷ l) (same_ties ys zs s.1 t.1 tails)

  -- what `sort_by` gives, where each call compares the keys of two elements
  pub in_order-from_sort_by : {F : Type 0} {g : Mut F (Bor X × (Bor X × Unit {0})) Ordering} {f : F}
      (xs ys : List X) → IsSortedByClosure g f ys → IsStableByClosure g f xs ys
      → ((a : Bor X × (Bor X × Unit {0})) (r : Ordering) (f' : F) → Called g f a r f'
      → (r ≡ Keys (key a.0.now) (key a.1.0.now)) × (f' ≡ f)) → ys ≡ in_order key xs
  in_order-from_sort_by {g = g} {f = f} xs ys sorted stable calls =
      let order = ranks_by nat_list_cmp_total key in
      let compares : ComparesAs g below f =
      always_returns_same g (λ a r. is_lt r ≡ below a.0.now a.1.0.now) f
      (λ a r f' k. (ap is_lt (calls a r f' k).0, (calls a r f' k).1)) in
      same_ties ys (in_order key xs) (neighbours key ys (sorted below order compares))
      (in_order_sorted key xs)
      (λ x. stable below order compares x ∙ sym (ties-in_order x xs))

-- an order by keys of what elements stand for
module _ {X Y : Type 0} (key : Y → List ℕ) (f : X → Y) where
  map-put : (x : X) (xs : List X) → map f (put (λ x. key (f x)) x xs) ≡ put key (f x) (map f xs)
  unfolding put
  map-put x [] = refl
  map-put x (y ∷ ys) =
      elim (goes_first key (f x) (f y)) as
      (λ b. map f (cond b (x ∷ y ∷ ys) (y ∷ put (λ x. key (f x)) x ys))
      ≡ cond b (f x ∷ f y ∷ map f ys) (f y ∷ put key (f x) (map f ys))) [
        | true ↦ refl
        | false ↦ ap (λ l. f y ∷ l) (map-put x ys)
      ]

  pub map-in_order : (xs : List X) → map f (in_order (λ x. key (f x)) xs) ≡ in_order key (map f xs)
  unfolding in_order
  map-in_order [] = refl
  map-in_order (x ∷ xs) =
      map-put x (in_order (λ x. key (f x)) xs) ∙ ap (put key (f x)) (map-in_order xs)
