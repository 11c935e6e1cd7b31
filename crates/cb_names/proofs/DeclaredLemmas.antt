-- What a function declares, token by token, is that of the definitions.
use Rattle.std.proofs.Common.{◌≡◌, ◌∙◌, ◌+◌, ◌-◌, ◌<◌, ◌≤◌, ◌++◌, ◌∷◌, [], ℕ, suc, Bool, true, false, List, Option}
use Rattle.std.proofs.Common.{Some, None, ⊎_elim, refl, subst, sym, ap, add-one, arith, length, replicate}
use Rattle.std.proofs.Math.ListN.{get_or-eq_default}
use Rattle.std.proofs.lemmas.Bool.{cases_Bool, ltb-false, ltb-true, ne_eqb}
use Rattle.std.proofs.lemmas.List.{get_or-replicate, length-replicate}
use Rattle.std.proofs.lemmas.List.Folds.{list_any-append}
use Rattle.std.specs.Prelude.{◌&&◌, ◌||◌, ◌==◌, cond, slice_index_or, slice_set, nat_lt}
use Rattle.std.specs.List.{list_any, range_with_len}
use Rattle.cb_names.specs.Pairs.{byte_of, no_item, sign}
use Rattle.cb_names.specs.Declarators.{both, nothing}
use Rattle.cb_names.specs.Scoped.{contains, found_at, found_before, is_paired, own_list}
use Rattle.cb_names.specs.Tables.{IsTable}
use Rattle.cb_names.specs.declared.word.Item.{Item}
use Rattle.cb_names.specs.steps.Telling.{set_all, set_one}
use Rattle.cb_names.proofs.BracketLemmas.{self}
use Rattle.cb_names.proofs.LabelLemmas.{range_first}
use Rattle.cb_names.proofs.TableLemmas.{changed, renamed}

module _ (xs : List Item) where
  sign_out : (k : ℕ) → length xs ≤ k → sign xs k ≡ 0
  sign_out k over = ap (λ (x : Item). byte_of x.token.role) (get_or-eq_default xs no_item over)

  pub own_out : (m : ℕ) → length xs ≤ m → own_list xs m ≡ None
  own_out m over =
      let first = sign_out (suc m) (omega (arith, over)) in
      ap (λ n. cond (n == 41) (cond (sign xs (suc (suc m)) == 40 && is_paired xs (suc (suc m))) (Some (suc (suc m))) None)
      (cond (n == 40 && is_paired xs (suc m)) (Some (suc m)) None)) first

-- ---- what is found
module _ (xs : List Item) (own : Option ℕ) (b : ℕ) where
  pub found_next : (k : ℕ) → found_before xs own b (k + 1)
      ≡ both (found_before xs own b k) (found_at xs own b (contains (found_before xs own b k).lists k) k)
  unfolding found_before
  found_next k = ap (found_before xs own b) (add-one k)

  pub none_found : found_before xs own b 0 ≡ nothing
  unfolding found_before
  none_found = refl

-- ---- tests of indices in turn
module _ (p : ℕ → Bool) where
  pub any_here : (j n : ℕ) → j < n → p j ≡ true → list_any p (range_with_len j (n - j)) ≡ true
  any_here j n less is =
      ap (list_any p) (range_first j n less) ∙ ap (λ b. b || list_any p (range_with_len (j + 1) (n - (j + 1)))) is

  pub any_later : (j n : ℕ) → j < n → p j ≡ false
      → list_any p (range_with_len (j + 1) (n - (j + 1))) ≡ list_any p (range_with_len j (n - j))
  any_later j n less isnt =
      sym (ap (list_any p) (range_first j n less)
      ∙ ap (λ b. b || list_any p (range_with_len (j + 1) (n - (j + 1)))) isnt)

-- ---- flags
pub unset : (f : ℕ → Bool) (n : ℕ) (xs : List Bool) → xs ≡ replicate n false
    → ((i : ℕ) → f i ≡ false) → IsTable f n xs
unset f n xs is nothing = record {
  len = ap length is ∙ length-replicate n false;
  at = λ i d less. ap (λ l. slice_index_or l i d) is ∙ get_or-replicate n i false d less ∙ sym (nothing i);
}

or_true : (b : Bool) → (b || true) ≡ true
or_true true = refl
or_true false = refl

or_false : (b : Bool) → (b || false) ≡ b
or_false true = refl
or_false false = refl

or_assoc : (a b d : Bool) → ((a || b) || d) ≡ (a || (b || d))
or_assoc true b d = refl
or_assoc false b d = refl

one_set : (f : ℕ → Bool) (n k : ℕ) (xs : List Bool) → IsTable f n xs → IsTable (λ i. f i || (k == i)) n (set_one xs k)
one_set f n k xs t =
    ⊎_elim
    (λ inside. subst (λ b. IsTable (λ i. f i || (k == i)) n (cond b (slice_set xs k true) xs)) (sym inside)
    (changed f (λ i. f i || (k == i)) n k xs true t (omega (arith, ltb-true k (length xs) inside, t.len))
    (sym (ap (λ b. f k || b) (self k) ∙ or_true (f k)))
    (λ i less isnt. sym (ap (λ b. f i || b) (ne_eqb k i (λ e. isnt (sym e))) ∙ or_false (f i)))))
    (λ out. subst (λ b. IsTable (λ i. f i || (k == i)) n (cond b (slice_set xs k true) xs)) (sym out)
    (renamed f (λ i. f i || (k == i)) n xs t
    (λ i less. sym (ap (λ b. f i || b) (ne_eqb k i (λ e. omega (arith, e, less, t.len, ltb-false k (length xs) out)))
    ∙ or_false (f i)))))
    (cases_Bool (nat_lt k (length xs)))

pub all_set : (ks : List ℕ) (f : ℕ → Bool) (n : ℕ) (xs : List Bool) → IsTable f n xs
    → IsTable (λ i. f i || contains ks i) n (set_all xs ks)
unfolding set_all
all_set [] f n xs t = renamed f (λ i. f i || false) n xs t (λ i less. sym (or_false (f i)))
all_set (k ∷ ks) f n xs t =
    renamed (λ i. (f i || (k == i)) || contains ks i) (λ i. f i || contains (k ∷ ks) i) n _
    (all_set ks (λ i. f i || (k == i)) n (set_one xs k) (one_set f n k xs t))
    (λ i less. or_assoc (f i) (k == i) (contains ks i))

-- the flags of what is found once more
pub more_set : (before more all : List ℕ) (n : ℕ) (xs : List Bool) → IsTable (contains before) n xs
    → all ≡ before ++ more → IsTable (contains all) n (set_all xs more)
more_set before more all n xs t is =
    renamed (λ i. contains before i || contains more i) (contains all) n _ (all_set more (contains before) n xs t)
    (λ i less. sym (ap (λ l. contains l i) is ∙ list_any-append (λ x. x == i) before more))
