use Rattle.std.proofs.Common.{◌≡◌, ◌∙◌, ◌<◌, ◌+◌, ℕ, zero, suc, true, false, List, [], ◌∷◌, sym, ap}
use Rattle.std.proofs.Common.{subst, length, get_or, cond, nat_eq, arith}
use Rattle.std.proofs.lemmas.Bool.Decides.{nat_tests}
use Rattle.std.specs.List.{AllByRecursion, prefix_len}
use Rattle.std.specs.Prelude.{not}
use Rattle.cb_scan.specs.Order.{AreOrdered}
use Rattle.cb_index.specs.Names.{AreSingle}
use Rattle.cb_index.specs.declared.entry.Shown.{Shown}
use Rattle.cb_index.proofs.shown.place_of_name.Goals as goal

abbrev before : ℕ → List Shown → ℕ
before name ys = prefix_len (λ (s : Shown). not (nat_eq s.name name)) ys

same_number : (m n : ℕ) → m ≡ n → nat_eq m n ≡ true
same_number m n is = grind (arith, nat_tests, is)

other_first : (y d : Shown) (name at : ℕ) (ys : List Shown)
    → AllByRecursion (λ (t : Shown). nat_eq y.name t.name ≡ false) ys
    → at < length ys → (get_or ys at d).name ≡ name → nat_eq y.name name ≡ false
other_first y d name at [] all less is = absurd (omega (arith, less))
other_first y d name zero (t ∷ ys) all less is = subst (λ n. nat_eq y.name n ≡ false) is all.0
other_first y d name (suc at) (t ∷ ys) all less is =
    other_first y d name at ys all.1 (omega (arith, less)) is

-- none of the name stands before the one that is found
found : (d : Shown) (name at : ℕ) (ys : List Shown) → AreSingle ys → at < length ys
    → (get_or ys at d).name ≡ name → at ≡ before name ys
unfolding AreOrdered
found d name at [] single less is = absurd (omega (arith, less))
found d name zero (y ∷ ys) single less is =
    ap (λ b. cond (not b) (1 + before name ys) 0) (sym (same_number y.name name is))
found d name (suc at) (y ∷ ys) single less is =
    let later : at ≡ before name ys = found d name at ys single.1 (omega (arith, less)) is in
    let step : suc at ≡ 1 + before name ys = omega (arith, later) in
    step ∙ ap (λ b. cond (not b) (1 + before name ys) 0)
    (sym (other_first y d name at ys single.0 (omega (arith, less)) is))

pub returns-then-listed-likely-clause-place : goal.returns-then-listed-likely-clause-place
returns-then-listed-likely-clause-place c =
    found (record { name = 0; version = 0 }) c.args.name c.args.likely c.args.listed.now c.requires
    c.if-likely-listed.true c.if-listed-likely.true
