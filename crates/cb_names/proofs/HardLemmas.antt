-- How far attributes reach, one token further.
use Rattle.std.proofs.Common.{◌≡◌, ◌∙◌, ◌+◌, ◌<◌, ◌++◌, ◌∷◌, [], ℕ, Bool, true, false, List, Option, Some, None}
use Rattle.std.proofs.Common.{⊎_elim, refl, sym, ap, arith}
use Rattle.std.proofs.lemmas.Bool.{cases_Bool, false≢true}
use Rattle.std.proofs.lemmas.Bool.{le-leb, leb-true}
use Rattle.std.proofs.lemmas.Bool.Decides.{leb_tells}
use Rattle.std.proofs.lemmas.Grind.{flat_map-append}
use Rattle.std.proofs.lemmas.List.{append-nil, map-id}
use Rattle.std.proofs.lemmas.List.Folds.{list_any-append}
use Rattle.std.proofs.lemmas.List.FromFn.{map-range_with_len_more}
use Rattle.std.specs.Prelude.{◌||◌, cond, nat_le}
use Rattle.std.specs.List.{flat_map, list_any, range_with_len}
use Rattle.cb_names.specs.declared.word.Item.{Item}
use Rattle.cb_names.specs.HardAttributes.{hard_end, holds, is_left_out, kept_at}
use Rattle.cb_names.specs.Pairs.{at}
use Rattle.cb_names.specs.steps.Hiding.{farther, reaches}

or_same : (b : Bool) → (b || false) ≡ b
or_same true = refl
or_same false = refl

farther_some : (e l i : ℕ) → reaches (farther (Some e) (Some l)) i ≡ (nat_le i l || nat_le i e)
farther_some e l i =
    ⊎_elim
    (λ le. ap (λ b. reaches (cond b (Some e) (Some l)) i) le ∙ right (nat_le i l) (nat_le i e) (λ under. below i l e under le))
    (λ gt. ap (λ b. reaches (cond b (Some e) (Some l)) i) gt ∙ left (nat_le i l) (nat_le i e) (λ under. above i l e under gt))
    (cases_Bool (nat_le l e))
  where
    right : (a b : Bool) → (a ≡ true → b ≡ true) → b ≡ (a || b)
    right true b is = is refl
    right false b is = refl

    left : (a b : Bool) → (b ≡ true → a ≡ true) → a ≡ (a || b)
    left true b is = refl
    left false true is = is refl
    left false false is = refl

    below : (i l e : ℕ) → nat_le i l ≡ true → nat_le l e ≡ true → nat_le i e ≡ true
    below i l e a b = le-leb i e (omega (arith, leb-true i l a, leb-true l e b))

    above : (i l e : ℕ) → nat_le i e ≡ true → nat_le l e ≡ false → nat_le i l ≡ true
    above i l e a b =
        le-leb i l (omega (arith, leb-true i e a, over l e b))
      where
        over : (l e : ℕ) → nat_le l e ≡ false → e < l
        over l e b = ⊎_elim (λ t. absurd (false≢true (sym b ∙ t.0))) (λ f. f.1) (leb_tells l e)

pub farther_is : (end last : Option ℕ) (i : ℕ)
    → reaches (farther end last) i ≡ (reaches last i || reaches end i)
farther_is None last i = sym (or_same (reaches last i))
farther_is (Some e) None i = refl
farther_is (Some e) (Some l) i = farther_some e l i

pub range_more : (n : ℕ) → range_with_len 0 (n + 1) ≡ range_with_len 0 n ++ n ∷ []
range_more n =
    sym (map-id (range_with_len 0 (n + 1))) ∙ map-range_with_len_more (λ i. i) 0 n n (omega arith)
    ∙ ap (λ l. l ++ n ∷ []) (map-id (range_with_len 0 n))

module _ (xs : List Item) where
  pub last_more : (n : ℕ) (last : Option ℕ) → ((i : ℕ) → list_any (holds xs i) (range_with_len 0 n) ≡ reaches last i)
      → (i : ℕ) → list_any (holds xs i) (range_with_len 0 (n + 1)) ≡ reaches (farther (hard_end xs n) last) i
  last_more n last is i =
      ap (list_any (holds xs i)) (range_more n)
      ∙ list_any-append (holds xs i) (range_with_len 0 n) (n ∷ [])
      ∙ (λ k. is i k || or_same (holds xs i n) k)
      ∙ sym (farther_is (hard_end xs n) last i)

  pub kept_more : (n : ℕ) (out new : List Item) (b : Bool) → out ≡ flat_map (kept_at xs) (range_with_len 0 n)
      → b ≡ is_left_out xs n → new ≡ out ++ cond b [] (at xs n ∷ [])
      → new ≡ flat_map (kept_at xs) (range_with_len 0 (n + 1))
  kept_more n out new b out_is b_is new_is =
      new_is
      ∙ (λ i. out_is i ++ cond (b_is i) [] (at xs n ∷ []))
      ∙ ap (λ l. flat_map (kept_at xs) (range_with_len 0 n) ++ l) (sym (append-nil (kept_at xs n)))
      ∙ sym (flat_map-append (kept_at xs) (range_with_len 0 n) (n ∷ []))
      ∙ ap (flat_map (kept_at xs)) (sym (range_more n))
