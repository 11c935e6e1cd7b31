-- The kind of a definition is found by its place, as definitions go by place.
use Rattle.std.proofs.Common.{◌≡◌, ◌∙◌, ◌<◌, ◌≤◌, ◌==◌, ℕ, zero, suc, true, false, List, []}
use Rattle.std.proofs.Common.{◌∷◌, refl, sym, ap, arith, drop, length, nat_lt, take}
use Rattle.std.proofs.Common.{inl, inr}
use Rattle.std.specs.Prelude.{if◌then◌else◌, slice_index_or}
use Rattle.std.specs.List.{AllByRecursion}
use Rattle.std.specs.List.Sorted.{IsNonDecreasingBy, IsPartitionPoint}
use Rattle.std.proofs.lemmas.Bool.Decides.{nat_tests}
use Rattle.cb_index.proofs.SortedLemmas.{all_behind, all_upto, of_dropped}
use Rattle.cb_scan.specs.Order.{AreOrdered, IsDefBefore}
use Rattle.cb_scan.specs.declared.facts.Def.{Def}
use Rattle.cb_scan.specs.declared.facts.Kind.TheVariants as kind
use Rattle.cb_lsp.specs.Calls.{kind_at}
use Rattle.cb_lsp.specs.steps.Callers.{kind_first}

starts-before : (d e : Def) → IsDefBefore d e → d.name.start ≤ e.name.start
starts-before d e (inl less) = omega (arith, less)
starts-before d e (inr same) = omega (arith, same.0)

pub starts-up : (ds : List Def) → AreOrdered IsDefBefore ds
    → IsNonDecreasingBy (λ (d : Def). d.name.start) ds
unfolding AreOrdered
starts-up [] order i j e low within = absurd (omega (arith, within))
starts-up (d ∷ ds) order zero zero e low within = omega arith
starts-up (d ∷ ds) order zero (suc j) e low within =
    starts-before d (slice_index_or ds j e) (of_dropped (IsDefBefore d) 0 j ds e (omega arith) (omega (arith, within))
    order.0)
starts-up (d ∷ ds) order (suc i) zero e low within = absurd (omega (arith, low))
starts-up (d ∷ ds) order (suc i) (suc j) e low within =
    starts-up ds order.1 i j e (omega (arith, low)) (omega (arith, within))

-- one that begins before the place is passed
not-there : (n place : ℕ) → nat_lt n place ≡ true → (n == place) ≡ false
not-there n place before = grind (arith, nat_tests, before)

before-is-passed : (place n : ℕ) (ds : List Def)
    → AllByRecursion (λ (d : Def). nat_lt d.name.start place ≡ true) (take n ds)
    → kind_at (drop n ds) place ≡ kind_at ds place
unfolding kind_at
before-is-passed place zero ds all = refl
before-is-passed place (suc n) [] all = refl
before-is-passed place (suc n) (d ∷ ds) all =
    before-is-passed place n ds all.1
    ∙ ap (λ b. if b then d.kind else kind_at ds place)
    (sym (not-there d.name.start place all.0))

-- none behind one that begins past the place begins there
past-is-none : (place : ℕ) (ds : List Def)
    → AllByRecursion (λ (d : Def). place < d.name.start) ds → kind_at ds place ≡ kind.Function
unfolding kind_at
past-is-none place [] all = refl
past-is-none place (d ∷ ds) all =
    let no : (d.name.start == place) ≡ false = grind (arith, nat_tests, all.0) in
    ap (λ b. if b then d.kind else kind_at ds place) no ∙ past-is-none place ds all.1

behind-past : (place : ℕ) (d : Def) (ds : List Def) → place < d.name.start
    → AllByRecursion (IsDefBefore d) ds → AllByRecursion (λ (e : Def). place < e.name.start) ds
behind-past place d [] past all = tt
behind-past place d (e ∷ ds) past all =
    (omega (arith, past, starts-before d e all.0), behind-past place d ds past all.1)

-- of those that do not begin before the place the first one tells
first-tells : (place : ℕ) (ds : List Def) → AreOrdered IsDefBefore ds
    → AllByRecursion (λ (d : Def). nat_lt d.name.start place ≡ false) ds
    → kind_first ds place ≡ kind_at ds place
unfolding AreOrdered kind_at
first-tells place [] order all = refl
first-tells place (d ∷ ds) order all =
    (elim (d.name.start == place) as (λ b. (d.name.start == place) ≡ b
    → (if b then d.kind else kind.Function) ≡ (if b then d.kind else kind_at ds place)) [
      | true ↦ λ is. refl
      | false ↦ λ isnt.
          let past : place < d.name.start = grind (arith, nat_tests, all.0, isnt) in
          sym (past-is-none place ds (behind-past place d ds past order.0))
    ]) refl

dropped-order : (n : ℕ) (ds : List Def) → AreOrdered IsDefBefore ds
    → AreOrdered IsDefBefore (drop n ds)
unfolding AreOrdered
dropped-order zero ds order = order
dropped-order (suc n) [] order = tt
dropped-order (suc n) (d ∷ ds) order = dropped-order n ds order.1

pub kind-found : (place n : ℕ) (ds : List Def) → AreOrdered IsDefBefore ds → n ≤ length ds
    → IsPartitionPoint (λ (d : Def). nat_lt d.name.start place ≡ true)
    (λ (d : Def). nat_lt d.name.start place ≡ false) ds n
    → kind_first (drop n ds) place ≡ kind_at ds place
kind-found place n ds order within parted =
    first-tells place (drop n ds) (dropped-order n ds order)
    (all_behind (λ (d : Def). nat_lt d.name.start place ≡ false) n ds parted.1)
    ∙ before-is-passed place n ds
    (all_upto (λ (d : Def). nat_lt d.name.start place ≡ true) n ds within parted.0)
