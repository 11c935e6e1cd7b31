-- The first line that reads so.
use Rattle.std.proofs.Common.{◌≡◌, ◌≢◌, ◌∙◌, ℕ, zero, suc, ◌+◌, ◌-◌, ◌<◌, ◌≤◌, Bool, true, false}
use Rattle.std.proofs.Common.{List, length, Some, find, refl, sym, ap, arith, ⊎_elim}
use Rattle.std.specs.List.{range_with_len}
use Rattle.std.specs.Str.{bytes_eq}
use Rattle.std.proofs.lemmas.Bool.{cases_Bool, false≢true, cond-true, cond-false}
use Rattle.std.proofs.lemmas.Slice.Eq.{bytes_eq-Decides}
use Rattle.cb_scan.specs.Lines.{lines, line_text}
use Rattle.cb_tags.specs.Addresses.{finds}

-- a number that does not pass is left out
pub find-next : (p : ℕ → Bool) (a n : ℕ) → 0 < n → p a ≡ false
    → find p (range_with_len a n) ≡ find p (range_with_len (a + 1) (n - 1))
find-next p a zero some fails = absurd (omega arith)
find-next p a (suc n) some fails =
    let less : suc n - 1 ≡ n = omega arith in
    cond-false _ _ _ fails ∙ ap (λ k. find p (range_with_len (a + 1) k)) (sym less)

-- the first number that passes is at most each that does
record FirstIs (p : ℕ → Bool) (a k : ℕ) (xs : List ℕ) : Type 0 where
  first : ℕ
  found : find p xs ≡ Some first
  from : a ≤ first
  least : first ≤ k
  passes : p first ≡ true

first_is : (p : ℕ → Bool) (a n k : ℕ) → a ≤ k → k < a + n → p k ≡ true
    → FirstIs p a k (range_with_len a n)
first_is p a zero k low high passes_k = absurd (omega arith)
first_is p a (suc n) k low high passes_k = ⊎_elim
    (λ t.
    record { first = a; found = cond-true _ _ _ t; from = omega arith; least = low; passes = t })
    (λ f.
    let other : a ≢ k = λ is. false≢true (sym f ∙ ap p is ∙ passes_k) in
    let above : a + 1 ≤ k = omega (arith, other, low) in
    let r = first_is p (a + 1) n k above (omega arith) passes_k in
    record {
      first = r.first;
      found = cond-false _ _ _ f ∙ r.found;
      from = omega (arith, r.from);
      least = r.least;
      passes = r.passes;
    })
    (cases_Bool (p a))

-- a line is found at its own place or before
pub finds-line : (source : List ℕ) (n : ℕ) → 1 ≤ n → n ≤ length (lines source)
    → (m : ℕ) × (finds source (line_text source n) ≡ Some m) × (1 ≤ m) × (m ≤ n)
    × (line_text source m ≡ line_text source n)
unfolding finds
finds-line source n low high =
    let text = line_text source n in
    let r = first_is (λ m. bytes_eq text (line_text source m)) 1 (length (lines source)) n low
    (omega arith) ((bytes_eq-Decides text text).1 refl) in (
      r.first,
      r.found,
      r.from,
      r.least,
      sym ((bytes_eq-Decides text (line_text source r.first)).0 r.passes),
    )
