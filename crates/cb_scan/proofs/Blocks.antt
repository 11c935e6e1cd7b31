-- Where a block comment ends: the search for `*/` against the count of its bytes.
use Rattle.std.proofs.Common.{◌≡◌, ◌≢◌, ◌⊎◌, ◌+◌, ◌<◌, ◌≤◌, ℕ, zero, suc, Bool, true, false, ◌==◌}
use Rattle.std.proofs.Common.{◌&&◌, List, [], ◌∷◌, length, slice_index, Option, Some, None, codes}
use Rattle.std.proofs.Common.{refl, sym, ap, subst, ◌∙◌, arith, ⊎_elim}
use Rattle.std.proofs.lemmas.Bool.{cases_Bool, cases_eq, both_ways, cond-true, cond-false}
use Rattle.std.proofs.lemmas.Bool.{cond_both, eqb-true, eq-eqb, and_from, and_parts}
use Rattle.std.proofs.lemmas.Bool.{false_from_ne_true}
use Rattle.memchr.specs.Find.{OccursAt, occurs_at, IsFirst, FindsNeedle}
use Rattle.memchr.proofs.lemmas.MatchLemmas.{OccursAt-true, occurs_at-true}
use Rattle.cb_scan.specs.lex.Lexeme.{comment_end}
use Rattle.cb_scan.specs.steps.Cut.{block_len}

-- `*/` is in xs from place k on
record Closes (xs : List ℕ) (k : ℕ) : Type 0 where
  fits : k + 2 ≤ length xs
  star : slice_index xs k ≡ 42
  slash : slice_index xs (suc k) ≡ 47

closes_from : (xs : List ℕ) (k : ℕ) → OccursAt xs (codes "*/") k → Closes xs k
closes_from xs k h = record {
  fits = h.fits;
  star = ap (slice_index xs) (let e : k ≡ k + 0 = omega arith in e) ∙ h.reads 0 (omega arith);
  slash = ap (slice_index xs) (let e : suc k ≡ k + 1 = omega arith in e) ∙ h.reads 1 (omega arith);
}

occurs_from : (xs : List ℕ) (k : ℕ) → Closes xs k → OccursAt xs (codes "*/") k
occurs_from xs k h = record {
  fits = h.fits;
  reads = λ j low. ⊎_elim
      (λ first. subst (λ i. slice_index xs (k + i) ≡ slice_index (codes "*/") i) (sym first)
      (ap (slice_index xs) (let e : k + 0 ≡ k = omega arith in e) ∙ h.star))
      (λ second. subst (λ i. slice_index xs (k + i) ≡ slice_index (codes "*/") i) (sym second)
      (ap (slice_index xs) (let e : k + 1 ≡ suc k = omega arith in e) ∙ h.slash))
      (let e : (j ≡ 0) ⊎ (j ≡ 1) = grind arith in e);
}

-- no `/` directly after a star
Parted : Bool → List ℕ → Type 0
Parted star xs = star ≡ true → 0 < length xs → slice_index xs 0 ≢ 47

-- no `*/` before place k
NoneBelow : List ℕ → ℕ → Type 0
NoneBelow xs k = (j : ℕ) → j < k → ¬ Closes xs j

stop : (star : Bool) (b : ℕ) (xs : List ℕ) → Parted star (b ∷ xs) → (star && b == 47) ≡ false
unfolding Parted
stop star b xs parted = false_from_ne_true _ (λ yes.
    let parts = and_parts _ _ yes in
    parted parts.0 (omega arith) (eqb-true _ _ parts.1))

later : (b : ℕ) (xs : List ℕ) (k : ℕ) → Closes xs k → Closes (b ∷ xs) (suc k)
later b xs k h = record { fits = omega (arith, h.fits); star = h.star; slash = h.slash }

sooner : (b : ℕ) (xs : List ℕ) (k : ℕ) → Closes (b ∷ xs) (suc k) → Closes xs k
sooner b xs k h = record { fits = omega (arith, h.fits); star = h.star; slash = h.slash }

parted_next : (b : ℕ) (xs : List ℕ) → ¬ Closes (b ∷ xs) 0 → Parted (b == 42) xs
unfolding Parted
parted_next b xs other star some slash = other (record { fits = omega arith; star = eqb-true _ _ star; slash = slash })

found : (star : Bool) (xs : List ℕ) (k : ℕ) → Parted star xs → Closes xs k → NoneBelow xs k → block_len star xs ≡ k + 2
unfolding block_len NoneBelow
found star [] k parted here none = absurd (omega (arith, here.fits))
found star (b ∷ []) zero parted here none = absurd (omega (arith, here.fits))
found star (b ∷ c ∷ xs) zero parted here none =
    let first : (b == 42) ≡ true = eq-eqb b 42 here.star in
    let second : (c == 47) ≡ true = eq-eqb c 47 here.slash in
    cond-false _ _ _ (stop star b (c ∷ xs) parted) ∙ ap suc (cond-true _ _ _ (and_from _ _ first second))
found star (b ∷ xs) (suc k) parted here none =
    cond-false _ _ _ (stop star b xs parted)
    ∙ ap suc (found (b == 42) xs k (parted_next b xs (none 0 (omega arith))) (sooner b xs k here)
    (λ j low h. none (suc j) (omega arith) (later b xs j h)))
    ∙ omega arith

missed : (star : Bool) (xs : List ℕ) → Parted star xs → ((j : ℕ) → ¬ Closes xs j) → block_len star xs ≡ length xs
unfolding block_len
missed star [] parted none = refl
missed star (b ∷ xs) parted none =
    cond-false _ _ _ (stop star b xs parted)
    ∙ ap suc (missed (b == 42) xs (parted_next b xs (none 0)) (λ j h. none (suc j) (later b xs j h)))

not_parted : (xs : List ℕ) → Parted false xs
unfolding Parted
not_parted xs never = cc

pub block_len-some : (xs : List ℕ) (k : ℕ) → FindsNeedle xs (codes "*/") 0 (Some k) → block_len false xs ≡ k + 2
unfolding NoneBelow
block_len-some xs k h = found false xs k (not_parted xs) (closes_from xs k h.1) (λ j low c.
    let first = h.0 in
    first.before j (omega arith) low (occurs_from xs j c))

pub block_len-none : (xs : List ℕ) → FindsNeedle xs (codes "*/") 0 None → block_len false xs ≡ length xs
block_len-none xs h = missed false xs (not_parted xs)
    (λ j c. h j (omega arith) (let f = c.fits in omega arith) (occurs_from xs j c))

pub block_len-within : (star : Bool) (xs : List ℕ) → block_len star xs ≤ length xs
unfolding block_len
block_len-within star [] = omega arith
block_len-within star (b ∷ xs) =
    let inner = block_len-within (b == 42) xs in
    cond_both (star && b == 47) _ _ (λ n. n ≤ suc (length xs)) (λ _. omega arith) (λ _. omega arith)

first_more : (P : ℕ → Type 0) (i j : ℕ) (r : Option ℕ) → i < j → ¬ P i → IsFirst P (i + 1) j r → IsFirst P i j r
first_more P i j None le here h =
    λ k low high p. ⊎_elim (λ e. here (subst P e p)) (λ other. h k (omega arith) high p) (cases_eq k i)
first_more P i j (Some k) le here h =
    let first = h.0 in (
      record {
        low = omega (arith, first.low);
        high = first.high;
        before = λ m low high p. ⊎_elim (λ e. here (subst P e p)) (λ other. first.before m (omega arith) high p)
            (cases_eq m i);
      },
      h.1,
    )

-- the first place that passes a test, or none
first_place : (P : ℕ → Type 0) (test : ℕ → Bool) → ((k : ℕ) → test k ≡ true → P k) → ((k : ℕ) → P k → test k ≡ true)
    → (n i j : ℕ) → i + n ≡ j → (r : Option ℕ) × IsFirst P i j r
first_place P test sound complete zero i j e = (None, λ k low high p. absurd (let x : ⊥ = omega arith in x))
first_place P test sound complete (suc n) i j e = ⊎_elim
    (λ t. (
      Some i,
      (
        record {
          low = omega arith;
          high = omega arith;
          before = λ k low high p. absurd (let x : ⊥ = omega arith in x);
        },
        sound i t,
      ),
    ))
    (λ f.
    let later = first_place P test sound complete n (i + 1) j (omega arith) in
    (later.0, first_more P i j later.0 (omega arith) (λ p. both_ways (test i) f (complete i p)) later.1))
    (cases_Bool (test i))

-- a search for `*/` has an answer
pub finds_close : (xs : List ℕ) → (r : Option ℕ) × FindsNeedle xs (codes "*/") 0 r
finds_close xs = first_place (OccursAt xs (codes "*/")) (occurs_at xs (codes "*/")) (OccursAt-true xs (codes "*/"))
    (occurs_at-true xs (codes "*/")) (length xs + 1) 0 (length xs + 1) (omega arith)

-- and it is where the count of bytes ends
pub block_len-found : (xs : List ℕ) (r : Option ℕ) → FindsNeedle xs (codes "*/") 0 r
    → suc (suc (block_len false xs)) ≡ comment_end (suc (suc (length xs))) r
block_len-found xs None h = ap (λ n. suc (suc n)) (block_len-none xs h)
block_len-found xs (Some k) h = ap (λ n. suc (suc n)) (block_len-some xs k h) ∙ omega arith
