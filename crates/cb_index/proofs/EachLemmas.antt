-- Indexes that become others, one after another.
use Rattle.std.proofs.Common.{◌≡◌, ◌∙◌, ◌≤◌, ◌<◌, ℕ, zero, suc, Bool, true, false, List, [], ◌∷◌}
use Rattle.std.proofs.Common.{refl, sym, ap, subst}
use Rattle.std.proofs.Common.{length, map, slice_index_or, slice_set, arith}
use Rattle.std.proofs.lemmas.List.{length-map}
use Rattle.std.specs.List.{AllByRecursion}
use Rattle.cb_index.specs.Held.{Indexed}
use Rattle.cb_index.specs.Kinds.{all_kinds, def_kind}
use Rattle.cb_index.specs.Shelved.{def_place}
use Rattle.cb_index.specs.declared.entry.IndexKind.{IndexKind}
use Rattle.cb_index.specs.steps.Moves.{Become}

abbrev pub kinds_of : List Indexed → List IndexKind
kinds_of xs = map (λ (x : Indexed). x.kind) xs

module _ (way : Indexed → Indexed → Type 0) where
  -- the first ones have become others, and the rest are as before
  abbrev pub Upto : ℕ → List Indexed → List Indexed → Type 0
  Upto zero xs ys = ys ≡ xs
  Upto (suc i) [] [] = Unit {0}
  Upto (suc i) [] (y ∷ ys) = ⊥
  Upto (suc i) (x ∷ xs) [] = ⊥
  Upto (suc i) (x ∷ xs) (y ∷ ys) = way x y × Upto i xs ys

  pub upto_next : (i : ℕ) (xs ys : List Indexed) (y d : Indexed) → i < length ys → Upto i xs ys
      → way (slice_index_or ys i d) y → Upto (suc i) xs (slice_set ys i y)
  upto_next zero xs [] y d below is one = absurd (omega (arith, below))
  upto_next zero xs (z ∷ zs) y d below is one = subst (λ l. Upto 1 l (y ∷ zs)) is (one, refl)
  upto_next (suc i) [] [] y d below u one = absurd (omega (arith, below))
  upto_next (suc i) [] (z ∷ zs) y d below u one = absurd u
  upto_next (suc i) (x ∷ xs) [] y d below u one = absurd u
  upto_next (suc i) (x ∷ xs) (z ∷ zs) y d below u one =
      (u.0, upto_next i xs zs y d (omega (arith, below)) u.1 one)

  pub upto_done : (i : ℕ) (xs ys : List Indexed) → length ys ≤ i → Upto i xs ys → Become way xs ys
  upto_done zero xs [] past is = subst (λ l. Become way l []) is tt
  upto_done zero xs (z ∷ zs) past is = absurd (omega (arith, past))
  upto_done (suc i) [] [] past u = tt
  upto_done (suc i) [] (z ∷ zs) past u = absurd u
  upto_done (suc i) (x ∷ xs) [] past u = absurd u
  upto_done (suc i) (x ∷ xs) (z ∷ zs) past u = (u.0, upto_done i xs zs (omega (arith, past)) u.1)

  -- the next one is as before
  pub upto_all : (P : Indexed → Type 0) (i : ℕ) (xs ys : List Indexed) (d : Indexed)
      → i < length ys → Upto i xs ys
      → AllByRecursion P xs → P (slice_index_or ys i d)
  upto_all P zero xs [] d below is all = absurd (omega (arith, below))
  upto_all P zero xs (z ∷ zs) d below is all = (subst (AllByRecursion P) (sym is) all).0
  upto_all P (suc i) [] [] d below u all = absurd (omega (arith, below))
  upto_all P (suc i) [] (z ∷ zs) d below u all = absurd u
  upto_all P (suc i) (x ∷ xs) [] d below u all = absurd u
  upto_all P (suc i) (x ∷ xs) (z ∷ zs) d below u all =
      upto_all P i xs zs d (omega (arith, below)) u.1 all.1

  -- where each may stay as it is
  pub upto_rest : ((x : Indexed) → way x x) → (i : ℕ) (xs ys : List Indexed) → Upto i xs ys
      → Become way xs ys
  upto_rest same zero xs ys is = subst (λ l. Become way l ys) is (all_same ys)
    where
      all_same : (zs : List Indexed) → Become way zs zs
      all_same [] = tt
      all_same (z ∷ zs) = (same z, all_same zs)
  upto_rest same (suc i) [] [] u = tt
  upto_rest same (suc i) [] (z ∷ zs) u = absurd u
  upto_rest same (suc i) (x ∷ xs) [] u = absurd u
  upto_rest same (suc i) (x ∷ xs) (z ∷ zs) u = (u.0, upto_rest same i xs zs u.1)

  -- ---- what follows for all
  pub become_all : (P Q : Indexed → Type 0) → ((x y : Indexed) → way x y → P x → Q y)
      → (xs ys : List Indexed) → Become way xs ys → AllByRecursion P xs → AllByRecursion Q ys
  become_all P Q step [] [] b all = tt
  become_all P Q step [] (y ∷ ys) b all = absurd b
  become_all P Q step (x ∷ xs) [] b all = absurd b
  become_all P Q step (x ∷ xs) (y ∷ ys) b all =
      (step x y b.0 all.0, become_all P Q step xs ys b.1 all.1)

  pub become_kinds : ((x y : Indexed) → way x y → y.kind ≡ x.kind) → (xs ys : List Indexed)
      → Become way xs ys
      → kinds_of ys ≡ kinds_of xs
  become_kinds kind [] [] b = refl
  become_kinds kind [] (y ∷ ys) b = absurd b
  become_kinds kind (x ∷ xs) [] b = absurd b
  become_kinds kind (x ∷ xs) (y ∷ ys) b = λ i. kind x y b.0 i ∷ become_kinds kind xs ys b.1 i

-- ---- from one way to another
module _ (way other : Indexed → Indexed → Type 0)
    (less : (x y : Indexed) → way x y → other x y) where
  pub upto_less : (i : ℕ) (xs ys : List Indexed) → Upto way i xs ys → Upto other i xs ys
  upto_less zero xs ys is = is
  upto_less (suc i) [] [] u = tt
  upto_less (suc i) [] (y ∷ ys) u = absurd u
  upto_less (suc i) (x ∷ xs) [] u = absurd u
  upto_less (suc i) (x ∷ xs) (y ∷ ys) u = (less x y u.0, upto_less i xs ys u.1)

  pub become_less : (xs ys : List Indexed) → Become way xs ys → Become other xs ys
  become_less [] [] b = tt
  become_less [] (y ∷ ys) b = absurd b
  become_less (x ∷ xs) [] b = absurd b
  become_less (x ∷ xs) (y ∷ ys) b = (less x y b.0, become_less xs ys b.1)

module _ (way : Indexed → Indexed → Type 0) (Q : Indexed → Type 0)
    (right : (x y : Indexed) → way x y → Q y) where
  pub become_right : (xs ys : List Indexed) → Become way xs ys → AllByRecursion Q ys
  become_right [] [] b = tt
  become_right [] (y ∷ ys) b = absurd b
  become_right (x ∷ xs) [] b = absurd b
  become_right (x ∷ xs) (y ∷ ys) b = (right x y b.0, become_right xs ys b.1)

-- ---- one of them
pub all_at : (P : Indexed → Type 0) (xs : List Indexed) (i : ℕ) (d : Indexed) → i < length xs
    → AllByRecursion P xs → P (slice_index_or xs i d)
all_at P [] i d below all = absurd (omega (arith, below))
all_at P (x ∷ xs) zero d below all = all.0
all_at P (x ∷ xs) (suc i) d below all = all_at P xs i d (omega (arith, below)) all.1

pub all_set : (P : Indexed → Type 0) (xs : List Indexed) (i : ℕ) (y : Indexed) → P y
    → AllByRecursion P xs → AllByRecursion P (slice_set xs i y)
all_set P [] i y one all = tt
all_set P (x ∷ xs) zero y one all = (one, all.1)
all_set P (x ∷ xs) (suc i) y one all = (all.0, all_set P xs i y one all.1)

pub kinds_set : (xs : List Indexed) (i : ℕ) (y d : Indexed) → i < length xs
    → y.kind ≡ (slice_index_or xs i d).kind
    → kinds_of (slice_set xs i y) ≡ kinds_of xs
kinds_set [] i y d below same = absurd (omega (arith, below))
kinds_set (x ∷ xs) zero y d below same = λ i. same i ∷ kinds_of xs
kinds_set (x ∷ xs) (suc n) y d below same = λ i.
    x.kind ∷ kinds_set xs n y d (omega (arith, below)) same i

-- ---- the index of a kind
map_at : (xs : List Indexed) (n : ℕ) (d : Indexed)
    → (slice_index_or xs n d).kind ≡ slice_index_or (kinds_of xs) n d.kind
map_at [] n d = refl
map_at (x ∷ xs) zero d = refl
map_at (x ∷ xs) (suc n) d = map_at xs n d

in_place : (by_tag_name : Bool) (other : IndexKind)
    → slice_index_or all_kinds (def_place by_tag_name) other ≡ def_kind by_tag_name
in_place false other = refl
in_place true other = refl

pub kind_at : (by_tag_name : Bool) (xs : List Indexed) (d : Indexed) → kinds_of xs ≡ all_kinds
    → (slice_index_or xs (def_place by_tag_name) d).kind ≡ def_kind by_tag_name
kind_at by_tag_name xs d kinds =
    map_at xs (def_place by_tag_name) d
    ∙ ap (λ l. slice_index_or l (def_place by_tag_name) d.kind) kinds
    ∙ in_place by_tag_name d.kind

two : (by_tag_name : Bool) → def_place by_tag_name < 2
two false = omega arith
two true = omega arith

pub place_below : (by_tag_name : Bool) (xs : List Indexed) → kinds_of xs ≡ all_kinds
    → def_place by_tag_name < length xs
place_below by_tag_name xs kinds =
    let same = length-map xs (λ (x : Indexed). x.kind) in
    let count = ap length kinds in
    omega (arith, two by_tag_name, same, count)
