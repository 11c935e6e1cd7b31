-- Lists of one answer for each token, as they grow.
use Rattle.std.proofs.Common.{◌≡◌, ◌≢◌, ◌∙◌, ◌+◌, ◌<◌, ◌≤◌, ◌++◌, ◌∷◌, [], ℕ, List, ⊎_elim, sym, ap}
use Rattle.std.proofs.Common.{length, arith, ◌-◌}
use Rattle.std.proofs.lemmas.List.{get_or-append_right, get_or_append_left, get_or-set_other, get_or-set_same}
use Rattle.std.proofs.lemmas.List.{length-append, length-set}
use Rattle.std.proofs.lemmas.Bool.Decides.{eqb_tells}
use Rattle.std.specs.Prelude.{slice_index_or, slice_set}
use Rattle.cb_names.specs.Tables.{IsTable}

module _ {A : Type 0} (f : ℕ → A) where
  pub none : (xs : List A) → xs ≡ [] → IsTable f 0 xs
  none xs is = record {
    len = ap length is;
    at = λ i d less. absurd (omega (arith, less));
  }

  -- an answer more
  pub push : (k : ℕ) (xs ys : List A) (y : A) → IsTable f k xs → ys ≡ xs ++ y ∷ [] → y ≡ f k
      → IsTable f (k + 1) ys
  push k xs ys y t is y_is = record {
    len = ap length is ∙ length-append xs (y ∷ []) ∙ ap (λ n. n + 1) t.len;
    at = λ i d less. ap (λ l. slice_index_or l i d) is ∙ here i d less;
  }
    where
      here : (i : ℕ) (d : A) → i < k + 1 → slice_index_or (xs ++ y ∷ []) i d ≡ f i
      here i d less =
          ⊎_elim
          (λ same. let is_k : i ≡ k = same.1 in
          let over : k ≤ i = omega (arith, is_k) in
          let zero_is : i - k ≡ 0 = omega (arith, is_k) in
          get_or-append_right xs (y ∷ []) k i d t.len over
          ∙ ap (λ n. slice_index_or (y ∷ []) n d) zero_is ∙ y_is ∙ ap f (sym is_k))
          (λ other. let under : i < k = omega (arith, less, other.1) in
          get_or_append_left xs (y ∷ []) d i (omega (arith, under, t.len)) ∙ t.at i d under)
          (eqb_tells i k)

-- one answer is another
pub changed : {A : Type 0} (f g : ℕ → A) (k j : ℕ) (xs : List A) (y : A) → IsTable f k xs → j < k → y ≡ g j
    → ((i : ℕ) → i < k → i ≢ j → f i ≡ g i) → IsTable g k (slice_set xs j y)
changed f g k j xs y t within y_is others = record {
  len = length-set xs j y ∙ t.len;
  at = λ i d less.
      ⊎_elim
      (λ same. ap (λ n. slice_index_or (slice_set xs j y) n d) same.1
      ∙ get_or-set_same xs j y d (omega (arith, within, t.len)) ∙ y_is ∙ ap g (sym same.1))
      (λ other. get_or-set_other xs j i y d other.1 ∙ t.at i d less ∙ others i less other.1)
      (eqb_tells i j);
}

-- the same answers by another name
pub renamed : {A : Type 0} (f g : ℕ → A) (k : ℕ) (xs : List A) → IsTable f k xs
    → ((i : ℕ) → i < k → f i ≡ g i) → IsTable g k xs
renamed f g k xs t same = record { len = t.len; at = λ i d less. t.at i d less ∙ same i less }
