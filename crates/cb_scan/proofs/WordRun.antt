-- From the mask of one load to the bytes of a name.
use Rattle.std.proofs.Common.{◌≡◌, ◌≢◌, ◌∙◌, ◌+◌, ◌<◌, ◌%◌, ◌^◌, ℕ, zero, suc, Bool, true, not, eqb}
use Rattle.std.proofs.Common.{List, [], ◌∷◌, length, map, take, drop, get_or, Fits, w8, refl, sym}
use Rattle.std.proofs.Common.{ap, arith}
use Rattle.std.specs.Prelude.{cond}
use Rattle.std.specs.List.{prefix_len}
use Rattle.std.proofs.lemmas.Bool.{agree_below, agree_below_at, cond-true, cond-false, eq-eqb, ne_eqb}
use Rattle.std.proofs.lemmas.List.{length-map, take-append-drop}
use Rattle.std.proofs.lemmas.List.Folds.{prefix_len-append}
use Rattle.std.proofs.lemmas.Simd.{first_set_mask_l, map-map, mask_l-mod}
use lib.Lanes.{mask_l, top}
use Rattle.cb_scan.specs.steps.Lanes.{first_set}

-- of the first n bytes, tests that agree on bytes pass equally many
agree : (p q : ℕ → Bool) → ((b : ℕ) → b < 256 → p b ≡ q b) → (n : ℕ) (xs : List ℕ) → ((k : ℕ) → Fits w8 (get_or xs k 0))
    → prefix_len p (take n xs) ≡ prefix_len q (take n xs)
agree p q same zero xs fits = refl
agree p q same (suc n) [] fits = refl
agree p q same (suc n) (x ∷ xs) fits =
    λ i. cond (same x (fits 0).fits i) (1 + agree p q same n xs (λ k. fits (suc k)) i) 0

-- the first lane that stops is behind the first bytes that pass the test
pub run_passes : (q : ℕ → Bool) (xs : List ℕ) (f : ℕ → ℕ) (lanes : List ℕ) → ((k : ℕ) → Fits w8 (get_or xs k 0))
    → length (take 16 xs) ≡ 16 → lanes ≡ map f (take 16 xs)
    → agree_below (λ b. not (top 7 (f b))) q 256 ≡ true
    → first_set (mask_l (map (top 7) lanes) % 2 ^ 64) ≡ prefix_len q (take 16 xs)
run_passes q xs f lanes fits long is all =
    let v = take 16 xs in
    let stops : ℕ → Bool = λ b. top 7 (f b) in
    let mask : mask_l (map (top 7) lanes) % 2 ^ 64 ≡ mask_l (map stops v) =
    ap (λ l. mask_l l % 2 ^ 64) (ap (map (top 7)) is ∙ map-map (top 7) f v)
    ∙ mask_l-mod (map stops v) 64 (omega (arith, length-map v stops, long)) in
    ap first_set mask ∙ first_set_mask_l stops v 16 long (omega arith)
    ∙ agree (λ b. not (stops b)) q (λ b small. agree_below_at (λ c. not (stops c)) q 256 b all small) 16 xs fits

-- by the first n bytes and the others
split : (p : ℕ → Bool) (n : ℕ) (xs : List ℕ) → prefix_len p xs
    ≡ cond (eqb (prefix_len p (take n xs)) (length (take n xs))) (length (take n xs) + prefix_len p (drop n xs))
    (prefix_len p (take n xs))
split p n xs =
    ap (prefix_len p) (sym (take-append-drop n xs)) ∙ prefix_len-append p (take n xs) (drop n xs)

-- where one of the first n bytes fails, they decide
pub short_run : (p : ℕ → Bool) (n : ℕ) (xs : List ℕ) → length (take n xs) ≡ n → prefix_len p (take n xs) < n
    → prefix_len p (take n xs) ≡ prefix_len p xs
short_run p n xs long short =
    let other : prefix_len p (take n xs) ≢ length (take n xs) = λ same. omega (arith, same, long, short) in
    sym (split p n xs ∙ cond-false _ _ _ (ne_eqb _ _ other))

-- where all of them pass, the others go on
pub long_run : (p : ℕ → Bool) (n : ℕ) (xs : List ℕ) → length (take n xs) ≡ n → prefix_len p (take n xs) ≡ n
    → n + prefix_len p (drop n xs) ≡ prefix_len p xs
long_run p n xs long all =
    sym (split p n xs ∙ cond-true _ _ _ (eq-eqb _ _ (all ∙ sym long)) ∙ ap (λ k. k + prefix_len p (drop n xs)) long)
