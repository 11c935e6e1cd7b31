-- The items of an address: those that are read a byte a step, and those that are written.
use Rattle.std.proofs.Common.{◌≡◌, ◌≢◌, ◌⊎◌, ◌∙◌, ℕ, Bool, true, false, cond, not, ◌==◌, ◌&&◌, List}
use Rattle.std.proofs.Common.{[], ◌∷◌, ◌++◌, refl, sym, ap, subst, inl, inr, ⊎_elim, arith}
use Rattle.std.specs.List.{flat_map}
use Rattle.std.proofs.lemmas.Bool.{cases_Bool, false≢true, cond-true, cond-false, eqb-true, eq-eqb}
use Rattle.std.proofs.lemmas.Bool.{ne_eqb, and_from, and_parts, or_left, or_right, or_from}
use Rattle.std.proofs.lemmas.Bool.{or_cases}
use Rattle.cb_tags.specs.Addresses.{is_escaped, escaped, escape, Items, no_item, escaped_item}
use Rattle.cb_tags.specs.Addresses.{own_item, IsOneLine}
use Rattle.cb_tags.specs.steps.Items.{are_items, unescaped}

not_true : (b : Bool) → not b ≡ true → b ≡ false
not_true true e = sym e
not_true false e = refl

eqb-false : (a b : ℕ) → (a == b) ≡ false → a ≢ b
eqb-false a b f e = false≢true (sym f ∙ eq-eqb a b e)

which : (b : ℕ) → is_escaped b ≡ true → (b ≡ 47) ⊎ (b ≡ 92)
which b t =
    ⊎_elim (λ e. inl (eqb-true b 47 e)) (λ e. inr (eqb-true b 92 e))
    (or_cases (b == 47) (b == 92) t)

is_one : (b : ℕ) → (b ≡ 47) ⊎ (b ≡ 92) → is_escaped b ≡ true
is_one b (inl e) = or_left _ _ (eq-eqb b 47 e)
is_one b (inr e) = or_right _ _ (eq-eqb b 92 e)

-- what is read are items
pub read-Items : (bs : List ℕ) → are_items false bs ≡ true → Items bs (unescaped false bs)
unfolding are_items unescaped
read-Items [] t = no_item
read-Items (b ∷ []) t = ⊎_elim
    (λ e. absurd (false≢true (sym (cond-true _ _ _ e) ∙ t)))
    (λ f.
    let parts = and_parts (not (b == 47) && not (b == 10)) true (sym (cond-false _ _ _ f) ∙ t) in
    let tests = and_parts (not (b == 47)) (not (b == 10)) parts.0 in
    subst (λ t. Items (b ∷ []) t) (sym (cond-false _ _ _ f))
    (own_item (eqb-false b 47 (not_true _ tests.0)) (eqb-false b 92 f)
    (eqb-false b 10 (not_true _ tests.1)) no_item))
    (cases_Bool (b == 92))
read-Items (b ∷ c ∷ bs) t = ⊎_elim
    (λ e.
    let parts = and_parts (is_escaped c) (are_items false bs) (sym (cond-true _ _ _ e) ∙ t) in
    subst (λ t. Items (b ∷ c ∷ bs) t) (sym (cond-true _ _ _ e))
    (escaped_item (eqb-true b 92 e) (which c parts.0) (read-Items bs parts.1)))
    (λ f.
    let parts =
    and_parts (not (b == 47) && not (b == 10)) (are_items false (c ∷ bs))
    (sym (cond-false _ _ _ f) ∙ t) in
    let tests = and_parts (not (b == 47)) (not (b == 10)) parts.0 in
    subst (λ t. Items (b ∷ c ∷ bs) t) (sym (cond-false _ _ _ f))
    (own_item (eqb-false b 47 (not_true _ tests.0)) (eqb-false b 92 f)
    (eqb-false b 10 (not_true _ tests.1)) (read-Items (c ∷ bs) parts.1)))
    (cases_Bool (b == 92))

-- items are read, as what they stand for
pub Items-reads : (items text : List ℕ) → Items items text
    → (are_items false items ≡ true) × (unescaped false items ≡ text)
unfolding are_items unescaped
Items-reads _ _ no_item = (refl, refl)
Items-reads _ _ (escaped_item {a} {b} {items} {text} e w r) =
    let k = Items-reads items text r in
    let t = eq-eqb a 92 e in
    (cond-true _ _ _ t ∙ and_from _ _ (is_one b w) k.0, cond-true _ _ _ t ∙ ap (λ s. b ∷ s) k.1)
Items-reads _ _ (own_item {b} {items} {text} x y z r) =
    let k = Items-reads items text r in
    let f = ne_eqb b 92 y in (
      cond-false _ _ _ f ∙ and_from _ _ (and_from _ _ (ap not (ne_eqb b 47 x))
          (ap not (ne_eqb b 10 z))) k.0,
      cond-false _ _ _ f ∙ ap (λ s. b ∷ s) k.1,
    )

-- items stand for one text alone
pub Items-only : (items s t : List ℕ) → Items items s → Items items t → s ≡ t
Items-only items s t p q = sym (Items-reads items s p).1 ∙ (Items-reads items t q).1

-- a text of one line is written as items that stand for it
pub written-Items : (text : List ℕ) → IsOneLine text → Items (escape text) text
unfolding escape
written-Items [] one = no_item
written-Items (b ∷ bs) one = ⊎_elim
    (λ t. subst (λ e. Items (cond e (92 ∷ b ∷ []) (b ∷ []) ++ flat_map escaped bs) (b ∷ bs)) (sym t)
    (escaped_item refl (which b t) (written-Items bs one.1)))
    (λ f. subst (λ e. Items (cond e (92 ∷ b ∷ []) (b ∷ []) ++ flat_map escaped bs) (b ∷ bs)) (sym f)
    (own_item (λ e. false≢true (sym f ∙ is_one b (inl e)))
    (λ e. false≢true (sym f ∙ is_one b (inr e))) one.0 (written-Items bs one.1)))
    (cases_Bool (is_escaped b))

-- items are what is written for the text that they stand for, and that is one line
pub Items-written : (items text : List ℕ) → Items items text
    → (items ≡ escape text) × IsOneLine text
unfolding escape
Items-written _ _ no_item = (refl, tt)
Items-written _ _ (escaped_item {a} {b} {items} {text} e w r) =
    let k = Items-written items text r in (
      ap (λ x. x ∷ b ∷ items) e ∙ ap (λ t. 92 ∷ b ∷ t) k.0
          ∙ ap (λ e. cond e (92 ∷ b ∷ []) (b ∷ []) ++ flat_map escaped text) (sym (is_one b w)),
      (
        ⊎_elim (λ is f. absurd (omega (arith, is, f))) (λ is f. absurd (omega (arith, is, f))) w,
        k.1,
      ),
    )
Items-written _ _ (own_item {b} {items} {text} x y z r) =
    let k = Items-written items text r in
    let f : is_escaped b ≡ false = or_from _ _ (ne_eqb b 47 x) (ne_eqb b 92 y) in (
      ap (λ t. b ∷ t) k.0
          ∙ ap (λ e. cond e (92 ∷ b ∷ []) (b ∷ []) ++ flat_map escaped text) (sym f),
      (z, k.1),
    )
