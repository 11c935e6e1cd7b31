-- The order of keys by their first bytes, many at a time.
use Rattle.std.proofs.Common.{◌≡◌, ◌∙◌, ◌<◌, ◌≤◌, ◌+◌, ◌*◌, ◌^◌, ℕ, zero, suc, List, [], ◌∷◌}
use Rattle.std.proofs.Common.{drop, length, refl, sym, ap, arith}
use Rattle.std.proofs.Math.Nat.{mul-le-mul_right, suc-mul}
use Rattle.std.proofs.lemmas.Cmp.{by_ranked, ranked}
use Rattle.std.specs.Cmp.Lexicographic.{slice_cmp}
use Rattle.std.specs.Ordering.{nat_cmp, ordering_then}
use Rattle.cb_scan.specs.Keys.{key_prefix, leading}
use Rattle.cb_scan.proofs.KeyOrder.{first_bytes_first, leading_below, turned}
use Rattle.cb_index.specs.Archived.{AreBytes}

-- a first byte that is smaller makes the number smaller
other_worth : (x y p q r : ℕ) → y < x → r < p → x * p + q ≡ y * p + r → ⊥
other_worth x y p q r above below same =
    let more : suc y * p ≤ x * p = mul-le-mul_right p (omega (arith, above)) in
    let step : suc y * p ≡ y * p + p = suc-mul y p in
    omega (arith, more, step, below, same)

rest_worth : (x y p q r : ℕ) → x ≡ y → x * p + q ≡ y * p + r → q ≡ r
rest_worth x y p q r first same =
    let products : x * p ≡ y * p = ap (λ n. n * p) first in omega (arith, products, same)

-- keys with the same first bytes are ordered by what follows
pub same_front : (n : ℕ) (a b : List ℕ) → AreBytes a → AreBytes b → n ≤ length a → n ≤ length b
    → leading n a ≡ leading n b → slice_cmp nat_cmp a b ≡ slice_cmp nat_cmp (drop n a) (drop n b)
same_front zero a b in_a in_b long_a long_b same = refl
same_front (suc n) [] b in_a in_b long_a long_b same = absurd (omega (arith, long_a))
same_front (suc n) (x ∷ xs) [] in_a in_b long_a long_b same = absurd (omega (arith, long_b))
same_front (suc n) (x ∷ xs) (y ∷ ys) in_a in_b long_a long_b same =
    by_ranked (x < y) (x ≡ y) (y < x) (nat_cmp x y) (ranked x y (nat_cmp x y) refl)
    (λ e below. absurd (other_worth y x (256 ^ n) (leading n ys) (leading n xs) below
    (leading_below n xs in_a.1) (sym same)))
    (λ e first. ap (λ o. ordering_then o (slice_cmp nat_cmp xs ys)) e
    ∙ same_front n xs ys in_a.1 in_b.1 (omega (arith, long_a)) (omega (arith, long_b))
    (rest_worth x y (256 ^ n) (leading n xs) (leading n ys) first same))
    (λ e above. absurd (other_worth x y (256 ^ n) (leading n xs) (leading n ys) above
    (leading_below n ys in_b.1) same))

-- keys with other prefixes are ordered as these are
pub other_prefix : (a b : List ℕ) → AreBytes a → AreBytes b
    → (key_prefix a ≡ key_prefix b → ⊥)
    → nat_cmp (key_prefix a) (key_prefix b) ≡ slice_cmp nat_cmp a b
other_prefix a b in_a in_b apart =
    by_ranked (key_prefix a < key_prefix b) (key_prefix a ≡ key_prefix b) (key_prefix b < key_prefix a)
    (nat_cmp (key_prefix a) (key_prefix b))
    (ranked (key_prefix a) (key_prefix b) (nat_cmp (key_prefix a) (key_prefix b)) refl)
    (λ e below. e ∙ sym (first_bytes_first 8 a b in_a in_b below))
    (λ e same. absurd (apart same))
    (λ e above. e ∙ sym (turned a b (first_bytes_first 8 b a in_b in_a above)))
