-- What is known of a macro, token by token.
use Rattle.std.proofs.Common.{◌≡◌, ◌∙◌, ◌+◌, ◌<◌, ◌++◌, ◌∷◌, [], ℕ, Bool, true, false, List, refl, ap, length, map}
use Rattle.std.proofs.lemmas.List.{map-append, take_more}
use Rattle.std.proofs.lemmas.List.Elements.{filter-append}
use Rattle.std.proofs.lemmas.List.Folds.{list_any-append}
use Rattle.std.specs.Prelude.{◌||◌, cond, filter, slice_index_or, take}
use Rattle.std.specs.List.{list_any, range_with_len}
use Rattle.cb_names.specs.Tables.{those_where}
use Rattle.cb_names.proofs.HardLemmas.{range_more}

module _ {A : Type 0} (f : ℕ → A) (test : ℕ → Bool) where
  one : (n : ℕ) (b : Bool) → map f (cond b (n ∷ []) []) ≡ cond b (f n ∷ []) []
  one n true = refl
  one n false = refl

  pub those_more : (n : ℕ) → those_where f test (n + 1) ≡ those_where f test n ++ cond (test n) (f n ∷ []) []
  those_more n =
      ap (λ l. map f (filter test l)) (range_more n)
      ∙ ap (map f) (filter-append test (range_with_len 0 n) (n ∷ []))
      ∙ map-append f (filter test (range_with_len 0 n)) (filter test (n ∷ []))
      ∙ ap (λ l. those_where f test n ++ l) (one n (test n))

or_none : (b : Bool) → (b || false) ≡ b
or_none true = refl
or_none false = refl

-- one more index is looked at
pub any_more : (p : ℕ → Bool) (n : ℕ) → list_any p (range_with_len 0 (n + 1)) ≡ (list_any p (range_with_len 0 n) || p n)
any_more p n =
    ap (list_any p) (range_more n)
    ∙ list_any-append p (range_with_len 0 n) (n ∷ [])
    ∙ ap (λ b. list_any p (range_with_len 0 n) || b) (or_none (p n))

-- one more element is looked at
pub any_taken : {A : Type 0} (p : A → Bool) (xs : List A) (i : ℕ) (d : A) → i < length xs
    → list_any p (take (i + 1) xs) ≡ (list_any p (take i xs) || p (slice_index_or xs i d))
any_taken p xs i d less =
    ap (list_any p) (take_more xs i d less)
    ∙ list_any-append p (take i xs) (slice_index_or xs i d ∷ [])
    ∙ ap (λ b. list_any p (take i xs) || b) (or_none (p (slice_index_or xs i d)))
