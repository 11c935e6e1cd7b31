-- The number that digits write.
use Rattle.std.proofs.Common.{◌≡◌, ℕ, ◌+◌, ◌*◌, ◌-◌, ◌^◌, ◌<◌, ◌≤◌, Bool, true, false, List}
use Rattle.std.proofs.Common.{length, take, get_or, refl, ap, ◌∙◌, arith, add-one}
use Rattle.std.proofs.lemmas.Bool.Decides.{nat_tests}
use Rattle.std.specs.Char.{digit_value}
use Rattle.std.specs.List.{list_all}
use Rattle.std.specs.Str.Parse.{digits_value}
use Rattle.std.proofs.lemmas.Int.Digits.{digits_value_more}
use Rattle.std.proofs.lemmas.List.Folds.{list_all_at}
use Rattle.std.proofs.Math.Nat.{pow-suc, pow-le-pow_right}
use Rattle.cb_wire.specs.Fields.{is_digit}

pub digit_at : (xs : List ℕ) (i : ℕ) → list_all is_digit xs ≡ true → i < length xs
    → (48 ≤ get_or xs i 0) × (get_or xs i 0 ≤ 57)
digit_at xs i all h =
    let P : Bool → Type 0 = λ b.
    is_digit (get_or xs i 0) ≡ b → (48 ≤ get_or xs i 0) × (get_or xs i 0 ≤ 57) in
    let f : (b : Bool) → P b = λ b. elim b as P [
      | true ↦ λ t. (grind (arith, nat_tests), grind (arith, nat_tests))
      | false ↦ λ t. let no : list_all is_digit xs ≡ false = list_all_at is_digit xs i 0 h t in cc
    ] in
    f (is_digit (get_or xs i 0)) refl

digit_is : (b : ℕ) → 48 ≤ b → b ≤ 57 → digit_value b ≡ b - 48
digit_is b low high = grind (arith, nat_tests)

-- the number that one digit more writes
pub number_more : (xs : List ℕ) (i n : ℕ) → i < length xs → 48 ≤ get_or xs i 0 → get_or xs i 0 ≤ 57
    → n ≡ digits_value 10 (take i xs)
    → n * 10 + (get_or xs i 0 - 48) ≡ digits_value 10 (take (i + 1) xs)
number_more xs i n h low high e =
    let step = digits_value_more 10 xs i h in
    let digit = digit_is (get_or xs i 0) low high in
    cc

-- it stays below the next power of ten
pub number_small : (i n b : ℕ) → b ≤ 57 → n < 10 ^ i → n * 10 + (b - 48) < 10 ^ (i + 1)
number_small i n b h s =
    let e : 10 ^ (i + 1) ≡ 10 ^ i * 10 = ap (λ k. 10 ^ k) (add-one i) ∙ pow-suc 10 i in
    omega (arith, e)

-- nine digits fit
pub number_fits : (i n b : ℕ) → i < 9 → b ≤ 57 → n < 10 ^ i → n * 10 + (b - 48) < 1000000000
number_fits i n b h q s =
    let below : i + 1 ≤ 9 = omega arith in
    let power : 10 ^ (i + 1) ≤ 10 ^ 9 = pow-le-pow_right {n = 10} (omega arith) below in
    omega (arith, number_small i n b q s, power)
