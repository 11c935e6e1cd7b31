-- What stands behind a name, one pair further.
use Rattle.std.proofs.Common.{◌≡◌, ◌∙◌, ◌+◌, ◌-◌, ◌<◌, ℕ, zero, suc, List, None, Some, ap, refl}
use Rattle.std.specs.Option.{option_map_or}
use Rattle.cb_names.specs.Accesses.{behind_from, index_end}
use Rattle.cb_names.specs.declared.word.Item.{Item}
use Rattle.cb_names.proofs.DeclaratorLemmas.{fuel}

module _ (xs : List Item) where
  pub behind_last : (f k : ℕ) → index_end xs k ≡ None → behind_from xs f k ≡ k
  unfolding behind_from
  behind_last zero k is = refl
  behind_last (suc f) k is = ap (λ o. option_map_or (λ p. behind_from xs f (suc p)) o k) is

  pub behind_next : (n s k p : ℕ) → s < n → index_end xs k ≡ Some p
      → behind_from xs (n - s) k ≡ behind_from xs (n - (s + 1)) (suc p)
  unfolding behind_from
  behind_next n s k p less is =
      ap (λ f. behind_from xs f k) (fuel n s less)
      ∙ ap (λ o. option_map_or (λ p. behind_from xs (n - (s + 1)) (suc p)) o k) is

  pub behind_empty : (f k : ℕ) → f ≡ 0 → behind_from xs f k ≡ k
  unfolding behind_from
  behind_empty f k is = ap (λ n. behind_from xs n k) is
