-- Places in the order of their keys: no two are equal, and what is put among them keeps the order.
use Rattle.std.proofs.Common.{◌≡◌, ◌≢◌, ◌∙◌, sym, ap, refl, subst, ℕ, suc, true, false, not, cond}
use Rattle.std.proofs.Common.{List, [], ◌∷◌, ◌++◌, map, bytes_eq, ◌+◌, ◌<◌, arith, insert, nat_cmp}
use Rattle.std.proofs.Common.{Ordering, Less, Equal, Greater}
use Rattle.std.specs.List.{AllByRecursion, prefix_len}
use Rattle.std.specs.List.Sorted.{IsStrictlySortedBy}
use Rattle.std.specs.Cmp.Lexicographic.{slice_cmp}
use Rattle.std.specs.Ordering.{ordering_then, is_gt, is_eq}
use Rattle.std.proofs.lemmas.Slice.Eq.{bytes_eq-Decides}
use Rattle.std.proofs.lemmas.Map.Text.{is_eq-slice_cmp}
use Rattle.cb_scan.specs.Order.{goes_first, put, in_order}
use Rattle.cb_scan.proofs.OrderLemmas.{Sorted, in_order_sorted}
use Rattle.cb_desk.specs.World.{Place, place_key}

module _ {X : Type 0} (key : X → List ℕ) where
  -- no two have one key
  abbrev pub Apart : List X → Type 0
  Apart [] = Unit {0}
  Apart (x ∷ xs) = AllByRecursion (λ y. key x ≢ key y) xs × Apart xs

  abbrev pub Strict : List X → Type 0
  Strict = IsStrictlySortedBy (λ (x y : X). slice_cmp nat_cmp (key x) (key y))

  pub all-put : (P : X → Type 0) (x : X) (ys : List X) → P x → AllByRecursion P ys
      → AllByRecursion P (put key x ys)
  unfolding put
  all-put P x [] h all = (h, tt)
  all-put P x (y ∷ ys) h all =
      elim (goes_first key x y) as
      (λ b. AllByRecursion P (cond b (x ∷ y ∷ ys) (y ∷ put key x ys))) [
        | true ↦ (h, all)
        | false ↦ (all.0, all-put P x ys h all.1)
      ]

  pub all-in_order : (P : X → Type 0) (xs : List X) → AllByRecursion P xs
      → AllByRecursion P (in_order key xs)
  unfolding in_order
  all-in_order P [] all = tt
  all-in_order P (x ∷ xs) all = all-put P x (in_order key xs) all.0 (all-in_order P xs all.1)

  apart-put : (x : X) (ys : List X) → AllByRecursion (λ y. key x ≢ key y) ys → Apart ys
      → Apart (put key x ys)
  unfolding put
  apart-put x [] new apart = (tt, tt)
  apart-put x (y ∷ ys) new apart =
      elim (goes_first key x y) as (λ b. Apart (cond b (x ∷ y ∷ ys) (y ∷ put key x ys))) [
        | true ↦ (new, apart)
        | false ↦ (
          all-put (λ z. key y ≢ key z) x ys (λ e. new.0 (sym e)) apart.0,
          apart-put x ys new.1 apart.1,
        )
      ]

  apart-in_order : (xs : List X) → Apart xs → Apart (in_order key xs)
  unfolding in_order
  apart-in_order [] apart = tt
  apart-in_order (x ∷ xs) apart =
      apart-put x (in_order key xs) (all-in_order (λ y. key x ≢ key y) xs apart.0)
      (apart-in_order xs apart.1)

  same-keys : (a b : List ℕ) → slice_cmp nat_cmp a b ≡ Equal → a ≡ b
  same-keys a b e = (bytes_eq-Decides a b).0 (sym (is_eq-slice_cmp a b) ∙ ap is_eq e)

  less-from : (a b : List ℕ) → not (is_gt (slice_cmp nat_cmp a b)) ≡ true → a ≢ b
      → slice_cmp nat_cmp a b ≡ Less
  less-from a b first other = by_cases (slice_cmp nat_cmp a b) refl first
    where
      by_cases : (o : Ordering) → slice_cmp nat_cmp a b ≡ o → not (is_gt o) ≡ true
          → slice_cmp nat_cmp a b ≡ Less
      by_cases Less e is = e
      by_cases Equal e is = absurd (other (same-keys a b e))
      by_cases Greater e is = cc

  all-less : (x : X) (xs : List X) → AllByRecursion (λ y. goes_first key x y ≡ true) xs
      → AllByRecursion (λ y. key x ≢ key y) xs
      → AllByRecursion (λ y. slice_cmp nat_cmp (key x) (key y) ≡ Less) xs
  all-less x [] first apart = tt
  all-less x (y ∷ ys) first apart =
      (less-from (key x) (key y) first.0 apart.0, all-less x ys first.1 apart.1)

  -- sorted, and no two of one key
  pub strict-from : (xs : List X) → Sorted key xs → Apart xs → Strict xs
  unfolding IsStrictlySortedBy
  strict-from [] sorted apart = tt
  strict-from (x ∷ xs) sorted apart =
      (all-less x xs sorted.0 apart.0, strict-from xs sorted.1 apart.1)

  itself : (a b : List ℕ) → slice_cmp nat_cmp a b ≡ Less → a ≢ b
  itself a b less e =
      let same : bytes_eq a b ≡ true = (bytes_eq-Decides a b).1 e in let equal =
      is_eq-slice_cmp a b ∙ same in let unequal = ap is_eq less in cc

  all-apart : (x : X) (xs : List X)
      → AllByRecursion (λ y. slice_cmp nat_cmp (key x) (key y) ≡ Less) xs
      → AllByRecursion (λ y. key x ≢ key y) xs
  all-apart x [] less = tt
  all-apart x (y ∷ ys) less = (itself (key x) (key y) less.0, all-apart x ys less.1)

  pub apart-from : (xs : List X) → Strict xs → Apart xs
  unfolding IsStrictlySortedBy
  apart-from [] strict = tt
  apart-from (x ∷ xs) strict = (all-apart x xs strict.0, apart-from xs strict.1)

  -- elements of which no two have one key are strictly in order
  pub in_order-strict : (xs : List X) → Apart xs → Strict (in_order key xs)
  in_order-strict xs apart =
      strict-from (in_order key xs) (in_order_sorted key xs) (apart-in_order xs apart)

  first-from : (a b : List ℕ) → slice_cmp nat_cmp a b ≡ Less
      → not (is_gt (slice_cmp nat_cmp a b)) ≡ true
  first-from a b less = ap (λ o. not (is_gt o)) less

  -- what ascends is in order
  in_order-same : (xs : List X) → Strict xs → in_order key xs ≡ xs
  unfolding IsStrictlySortedBy in_order put
  in_order-same [] strict = refl
  in_order-same (x ∷ []) strict = refl
  in_order-same (x ∷ y ∷ ys) strict =
      ap (put key x) (in_order-same (y ∷ ys) strict.1)
      ∙ ap (λ b. cond b (x ∷ y ∷ ys) (y ∷ put key x ys)) (first-from (key x) (key y) strict.0.0)

  -- one more of another key, put among elements that ascend
  pub put-strict : (x : X) (ys : List X) → Strict ys → AllByRecursion (λ y. key x ≢ key y) ys
      → Strict (put key x ys)
  unfolding in_order
  put-strict x ys strict new =
      subst (λ l. Strict (put key x l)) (in_order-same ys strict)
      (in_order-strict (x ∷ ys) (new, apart-from ys strict))

  one-more : (n : ℕ) → 1 + n ≡ suc n
  one-more n = omega arith

  -- an element put after those that it does not go before
  pub insert-put : (x : X) (ys : List X)
      → insert ys (prefix_len (λ y. not (goes_first key x y)) ys) x ≡ put key x ys
  unfolding put
  insert-put x [] = refl
  insert-put x (y ∷ ys) =
      elim (goes_first key x y) as
      (λ b. insert (y ∷ ys) (cond (not b) (1 + prefix_len (λ y. not (goes_first key x y)) ys) 0) x
      ≡ cond b (x ∷ y ∷ ys) (y ∷ put key x ys)) [
        | true ↦ refl
        | false ↦
            ap (λ n. insert (y ∷ ys) n x) (one-more (prefix_len (λ y. not (goes_first key x y)) ys))
            ∙ ap (λ l. y ∷ l) (insert-put x ys)
      ]

-- ---- keys of places
pub nat-less : (n m : ℕ) → n < m → nat_cmp n m ≡ Less
nat-less n m is = grind (arith, is)

nat-greater : (n m : ℕ) → m < n → nat_cmp n m ≡ Greater
nat-greater n m is = grind (arith, is)

nat-raised : (n m : ℕ) → nat_cmp (suc n) (suc m) ≡ nat_cmp n m
nat-raised n m = grind arith

pub name-equal : (a : List ℕ) → slice_cmp nat_cmp a a ≡ Equal
name-equal a =
    equal-from (slice_cmp nat_cmp a a) (is_eq-slice_cmp a a ∙ (bytes_eq-Decides a a).1 refl)
  where
    equal-from : (o : Ordering) → is_eq o ≡ true → o ≡ Equal
    equal-from Less e = cc
    equal-from Equal e = refl
    equal-from Greater e = cc

-- places go by the bytes of the files' names, and then by line
pub cmp-places : (a b : List ℕ) (l m : ℕ)
    → slice_cmp nat_cmp (map suc a ++ 0 ∷ l ∷ []) (map suc b ++ 0 ∷ m ∷ [])
    ≡ ordering_then (slice_cmp nat_cmp a b) (nat_cmp l m)
cmp-places [] [] l m = then-equal (nat_cmp l m)
  where
    then-equal : (o : Ordering) → ordering_then o Equal ≡ o
    then-equal Less = refl
    then-equal Equal = refl
    then-equal Greater = refl
cmp-places [] (y ∷ b) l m = rw (nat-less 0 (suc y) (omega arith)) refl
cmp-places (x ∷ a) [] l m = rw (nat-greater (suc x) 0 (omega arith)) refl
cmp-places (x ∷ a) (y ∷ b) l m =
    ap (ordering_then (nat_cmp (suc x) (suc y))) (cmp-places a b l m)
    ∙ rw (nat-raised x y) (assoc (nat_cmp x y) (slice_cmp nat_cmp a b) (nat_cmp l m))
  where
    assoc : (o p q : Ordering)
        → ordering_then o (ordering_then p q) ≡ ordering_then (ordering_then o p) q
    assoc Less p q = refl
    assoc Equal p q = refl
    assoc Greater p q = refl

-- an order that is not equal decides
pub first-decides : (o p : Ordering) → o ≢ Equal → ordering_then o p ≡ o
first-decides Less p other = refl
first-decides Equal p other = absurd (other refl)
first-decides Greater p other = refl

-- a key is of one place alone
pub one-place : (p q : Place) → place_key p ≡ place_key q → (p.file ≡ q.file) × (p.line ≡ q.line)
one-place p q e = parts p.file q.file p.line q.line e
  where
    parts : (a b : List ℕ) (l m : ℕ) → map suc a ++ 0 ∷ l ∷ [] ≡ map suc b ++ 0 ∷ m ∷ []
        → (a ≡ b) × (l ≡ m)
    parts [] [] l m e = (refl, cc)
    parts [] (y ∷ b) l m e = cc
    parts (x ∷ a) [] l m e = cc
    parts (x ∷ a) (y ∷ b) l m e =
        let tails : map suc a ++ 0 ∷ l ∷ [] ≡ map suc b ++ 0 ∷ m ∷ [] = cc in
        let heads : x ≡ y = cc in
        let rest = parts a b l m tails in (cc (heads, rest.0), rest.1)
