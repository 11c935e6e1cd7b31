-- A bracket stands among the tokens.
use Rattle.std.proofs.Common.{◌≡◌, ◌<◌, ◌≤◌, ℕ, List, ⊎_elim, ap, length, arith}
use Rattle.std.proofs.Math.ListN.{get_or-eq_default}
use Rattle.std.proofs.lemmas.Bool.Decides.{leb_tells}
use Rattle.cb_names.specs.declared.word.Item.{Item}
use Rattle.cb_names.specs.Pairs.{byte_of, no_item, sign}

module _ (xs : List Item) where
  within : (k b : ℕ) → 1 ≤ b → sign xs k ≡ b → k < length xs
  within k b some is =
      ⊎_elim
      (λ over. let none : sign xs k ≡ 0 = ap (λ (x : Item). byte_of x.token.role) (get_or-eq_default xs no_item over.1) in
      absurd (omega (arith, none, is, some)))
      (λ under. under.1)
      (leb_tells (length xs) k)

  pub paren_within : (k : ℕ) → sign xs k ≡ 40 → k < length xs
  paren_within k is = within k 40 (omega arith) is

  pub close_within : (k : ℕ) → sign xs k ≡ 41 → k < length xs
  close_within k is = within k 41 (omega arith) is

  pub colon_within : (k : ℕ) → sign xs k ≡ 58 → k < length xs
  colon_within k is = within k 58 (omega arith) is
