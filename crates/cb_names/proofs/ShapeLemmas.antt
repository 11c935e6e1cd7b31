-- What is known of the tokens of a function, asked for any index.
use Rattle.std.proofs.Common.{◌≡◌, ◌∙◌, ◌<◌, ◌≤◌, ℕ, List, Option, None, Some, true, false, IfSome, ⊎_elim, sym, ap, length, arith}
use Rattle.std.proofs.Math.ListN.{get_or-eq_default}
use Rattle.std.proofs.lemmas.Bool.{false≢true}
use Rattle.std.proofs.lemmas.Bool.Decides.{leb_tells}
use Rattle.std.specs.Prelude.{◌&&◌, ◌==◌, cond}
use Rattle.std.specs.Option.{option_map_or}
use Rattle.cb_names.specs.declared.word.Item.{Item}
use Rattle.cb_names.specs.Pairs.{at, byte_of, is_opening, lowest_brace, nearest, nearest_brace, no_item, opened}
use Rattle.cb_names.specs.Pairs.{partner, sign}
use Rattle.cb_names.specs.Tables.{IsTable}
use Rattle.cb_names.specs.steps.Pairing.{answer}
use Rattle.cb_names.proofs.PairingLemmas.{partner_is, partner_less}

module _ (xs : List Item) where
  partner_out : (k : ℕ) → length xs ≤ k → partner xs k ≡ None
  partner_out k over =
      let none : sign xs k ≡ 0 = ap (λ (x : Item). byte_of x.token.role) (get_or-eq_default xs no_item over) in
      partner_is xs k (ap is_opening none)
      ∙ ap (λ n. cond (n == 41) (nearest 40 xs (opened xs k))
      (cond (n == 93) (nearest 91 xs (opened xs k))
      (cond (n == 125 && (at xs k).token.token.starts_line) (lowest_brace xs (opened xs k))
      (cond (n == 125) (nearest_brace xs (opened xs k)) None)))) none

  pub partner_answer : (table : List (Option ℕ)) → IsTable (partner xs) (length xs) table → (k : ℕ)
      → answer table k ≡ partner xs k
  partner_answer table t k =
      ⊎_elim
      (λ over. get_or-eq_default table None (omega (arith, over.1, t.len)) ∙ sym (partner_out k over.1))
      (λ under. t.at k None under.1)
      (leb_tells (length xs) k)

  pub partner_within : (k : ℕ) (o : Option ℕ) → o ≡ partner xs k → IfSome o (λ p. p < length xs)
  partner_within k None is = tt
  partner_within k (Some p) is =
      ⊎_elim
      (λ over. absurd (false≢true (ap (λ o. option_map_or (λ _. true) o false) (sym (is ∙ partner_out k over.1)))))
      (λ under. partner_less xs k p under.1 (sym is))
      (leb_tells (length xs) k)
