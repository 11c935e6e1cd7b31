-- The order of keys, by their prefixes and by all of their bytes.
use Rattle.std.proofs.Common.{◌≡◌, ◌∙◌, ◌<◌, ◌≤◌, ◌+◌, ◌*◌, ◌^◌, ◌++◌, ℕ, zero, suc, List, [], ◌∷◌}
use Rattle.std.proofs.Common.{refl, sym, ap, subst, map, arith}
use Rattle.std.proofs.Math.Nat.{mul-le-mul_right, pow-succ', suc-mul}
use Rattle.std.proofs.lemmas.Bool.Decides.{nat_tests}
use Rattle.std.proofs.lemmas.Cmp.{by_ranked, nat_list_cmp_total, ranked}
use Rattle.std.proofs.lemmas.Map.Text.{is_eq-slice_cmp}
use Rattle.std.proofs.lemmas.Slice.Eq.{bytes_eq-Decides}
use Rattle.std.specs.Cmp.Lexicographic.{slice_cmp}
use Rattle.std.specs.List.{All, AllByRecursion}
use Rattle.std.specs.Ordering.{is_eq, nat_cmp, ordering_reverse, ordering_then}
use Rattle.std.specs.declared.cmp.Ordering.{Ordering}
use Rattle.std.specs.declared.cmp.Ordering.TheVariants.{Less, Equal, Greater}
use Rattle.cb_scan.specs.Keys.{key_prefix, leading}

-- each number is a byte
abbrev pub AreBytes : List ℕ → Type 0
AreBytes bytes = AllByRecursion (λ b. b < 256) bytes

pub by_recursion : {X : Type 0} (P : X → Type 0) (xs : List X) → All P xs → AllByRecursion P xs
by_recursion P [] a = tt
by_recursion P (x ∷ xs) a = (a 0 x (omega arith), by_recursion P xs (λ k d below. a (suc k) d (omega (arith, below))))

-- ---- numbers
byte_worth : (b p q : ℕ) → b < 256 → q < p → b * p + q < 256 * p
byte_worth b p q small below =
    let most : b * p ≤ 255 * p = mul-le-mul_right p (omega (arith, small)) in omega (arith, most, below)

next_worth : (x y p q r : ℕ) → y < x → r < p → x * p + q < y * p + r → ⊥
next_worth x y p q r above below less =
    let more : suc y * p ≤ x * p = mul-le-mul_right p (omega (arith, above)) in
    let step : suc y * p ≡ y * p + p = suc-mul y p in
    omega (arith, more, step, below, less)

after_same : (x y p q r : ℕ) → x ≡ y → x * p + q < y * p + r → q < r
after_same x y p q r same less =
    let products : x * p ≡ y * p = ap (λ n. n * p) same in omega (arith, products, less)

pub leading_below : (n : ℕ) (key : List ℕ) → AreBytes key → leading n key < 256 ^ n
leading_below zero key bytes = omega arith
leading_below (suc n) [] bytes =
    let some : leading n [] < 256 ^ n = leading_below n [] tt in
    subst (λ m. 0 < m) (sym (pow-succ' 256 n)) (omega (arith, some))
leading_below (suc n) (b ∷ bs) bytes =
    subst (λ m. b * 256 ^ n + leading n bs < m) (sym (pow-succ' 256 n))
    (byte_worth b (256 ^ n) (leading n bs) bytes.0 (leading_below n bs bytes.1))

-- ---- a smaller prefix is that of a smaller key
pub first_bytes_first : (n : ℕ) (a b : List ℕ) → AreBytes a → AreBytes b → leading n a < leading n b
    → slice_cmp nat_cmp a b ≡ Less
first_bytes_first zero a b in_a in_b less = absurd (omega (arith, less))
first_bytes_first (suc n) [] [] in_a in_b less = absurd (omega (arith, less))
first_bytes_first (suc n) [] (y ∷ ys) in_a in_b less = refl
first_bytes_first (suc n) (x ∷ xs) [] in_a in_b less = absurd (omega (arith, less))
first_bytes_first (suc n) (x ∷ xs) (y ∷ ys) in_a in_b less =
    by_ranked (x < y) (x ≡ y) (y < x) (nat_cmp x y) (ranked x y (nat_cmp x y) refl)
    (λ e below. ap (λ o. ordering_then o (slice_cmp nat_cmp xs ys)) e)
    (λ e same. ap (λ o. ordering_then o (slice_cmp nat_cmp xs ys)) e
    ∙ first_bytes_first n xs ys in_a.1 in_b.1 (after_same x y (256 ^ n) (leading n xs) (leading n ys) same less))
    (λ e above. absurd (next_worth x y (256 ^ n) (leading n xs) (leading n ys) above
    (leading_below n ys in_b.1) less))

pub turned : (a b : List ℕ) → slice_cmp nat_cmp b a ≡ Less → slice_cmp nat_cmp a b ≡ Greater
turned a b is = nat_list_cmp_total.antisymm a b ∙ ap ordering_reverse is

-- prefixes settle no comparison otherwise than the keys do
pub prefix_first : (a b : List ℕ) → AreBytes a → AreBytes b
    → ordering_then (nat_cmp (key_prefix a) (key_prefix b)) (slice_cmp nat_cmp a b) ≡ slice_cmp nat_cmp a b
prefix_first a b in_a in_b =
    let first = nat_cmp (key_prefix a) (key_prefix b) in
    by_ranked (key_prefix a < key_prefix b) (key_prefix a ≡ key_prefix b) (key_prefix b < key_prefix a)
    first (ranked (key_prefix a) (key_prefix b) first refl)
    (λ e below. ap (λ o. ordering_then o (slice_cmp nat_cmp a b)) e ∙ sym (first_bytes_first 8 a b in_a in_b below))
    (λ e same. ap (λ o. ordering_then o (slice_cmp nat_cmp a b)) e)
    (λ e above. ap (λ o. ordering_then o (slice_cmp nat_cmp a b)) e
    ∙ sym (turned a b (first_bytes_first 8 b a in_b in_a above)))

-- ---- numbers in order
suc_cmp : (x y : ℕ) → nat_cmp (suc x) (suc y) ≡ nat_cmp x y
suc_cmp x y = grind (arith, nat_tests)

zero_cmp : (y : ℕ) → nat_cmp 0 (suc y) ≡ Less
zero_cmp y = grind (arith, nat_tests)

cmp_zero : (x : ℕ) → nat_cmp (suc x) 0 ≡ Greater
cmp_zero x = grind (arith, nat_tests)

-- ---- keys and then numbers
pub then_assoc : (o p q : Ordering) → ordering_then (ordering_then o p) q ≡ ordering_then o (ordering_then p q)
then_assoc Less p q = refl
then_assoc Equal p q = refl
then_assoc Greater p q = refl

-- lists that begin with bytes, ended by a 0, are ordered by the bytes and then by what follows
pub ended : (a b xs ys : List ℕ) → slice_cmp nat_cmp (map suc a ++ 0 ∷ xs) (map suc b ++ 0 ∷ ys)
    ≡ ordering_then (slice_cmp nat_cmp a b) (slice_cmp nat_cmp xs ys)
ended [] [] xs ys = refl
ended [] (y ∷ ys) ps qs =
    ap (λ o. ordering_then o (slice_cmp nat_cmp ps (map suc ys ++ 0 ∷ qs))) (zero_cmp y)
ended (x ∷ xs) [] ps qs =
    ap (λ o. ordering_then o (slice_cmp nat_cmp (map suc xs ++ 0 ∷ ps) qs)) (cmp_zero x)
ended (x ∷ xs) (y ∷ ys) ps qs =
    (λ k. ordering_then (suc_cmp x y k) (ended xs ys ps qs k))
    ∙ sym (then_assoc (nat_cmp x y) (slice_cmp nat_cmp xs ys) (slice_cmp nat_cmp ps qs))

pub both_equal : (o p : Ordering) → ordering_then o p ≡ Equal → (o ≡ Equal) × (p ≡ Equal)
both_equal Less p is = absurd (cc)
both_equal Equal p is = (refl, is)
both_equal Greater p is = absurd (cc)

pub same_bytes : (a b : List ℕ) → slice_cmp nat_cmp a b ≡ Equal → a ≡ b
same_bytes a b is = (bytes_eq-Decides a b).0 (sym (is_eq-slice_cmp a b) ∙ ap is_eq is)

pub same_number : (x y : ℕ) → nat_cmp x y ≡ Equal → x ≡ y
same_number x y is = ranked x y Equal (sym is)
