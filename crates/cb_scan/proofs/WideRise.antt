-- The bare tokens of a text come in the order of their places.
use Rattle.std.proofs.Common.{◌≡◌, ◌∙◌, ℕ, suc, Bool, true, false, List, [], ◌∷◌, refl, ap}
use Rattle.std.proofs.Common.{subst, arith}
use Rattle.std.proofs.lemmas.Bool.{eqb-true, false≢true}
use Rattle.std.specs.Prelude.{◌&&◌, cond, not}
use Rattle.std.specs.List.{AllByRecursion}
use Rattle.cb_scan.specs.declared.lex.token.Role.{Role}
use Rattle.cb_scan.specs.declared.lex.token.Role.TheVariants.{Mark, Other, Str, Word}
use Rattle.cb_scan.specs.declared.lex.token.Token.{Token}
use Rattle.cb_scan.specs.declared.rules.functions.Before.{Before}
use Rattle.cb_scan.specs.declared.rules.functions.Before.TheVariants.{Anything}
use Rattle.cb_scan.specs.declared.rules.wide.attribute.Attribute.{Attribute}
use Rattle.cb_scan.specs.declared.rules.wide.attribute.Attribute.TheVariants.{Outside}
use Rattle.cb_scan.specs.declared.rules.wide.role.WideRole.TheVariants as wide
use Rattle.cb_scan.specs.lex.Tokens.{bytes_of, is_mark}
use Rattle.cb_scan.specs.rules.wide.Attributes.{without_attributes}
use Rattle.cb_scan.specs.rules.wide.Levels.{wide_tokens}
use Rattle.cb_scan.specs.rules.wide.Words.{role_from}
use Rattle.cb_scan.specs.steps.Functions.{before_after, is_after_linkage}
use Rattle.cb_scan.specs.steps.wide.Attributes.{kept_from, leaves_out, next_attribute}
use Rattle.cb_scan.specs.steps.wide.Tokens.{token_after, tokens_from}
use Rattle.cb_scan.proofs.FunctionsRise.{all_implied}
use Rattle.cb_scan.proofs.Rising.{From, Rising}
use Rattle.cb_scan.proofs.WideAttributes.{kept_from_start}
use Rattle.cb_scan.proofs.WideBlocks.{IsRead}
use Rattle.cb_scan.proofs.WideSigns.{sign_of}
use Rattle.cb_scan.proofs.WideStack.{Rise}
use Rattle.cb_scan.proofs.WideTokens.{tokens_are}

mark_is : (b : ℕ) (r : Role) → is_mark b r ≡ true → r ≡ Mark b
mark_is b (Mark x) is = ap Mark (eqb-true x b is)
mark_is b (Word kind) is = absurd (false≢true is)
mark_is b Str is = absurd (false≢true is)
mark_is b Other is = absurd (false≢true is)

and_first : (a b : Bool) → (a && b) ≡ true → a ≡ true
and_first true b is = refl
and_first false b is = absurd (false≢true is)

module _ (text : List ℕ) where
  -- a `{` that counts is one
  counted_is : (b : Before) (t : Token) → (token_after text b t).counted ≡ true
      → (token_after text b t).role ≡ wide.Mark 123
  counted_is b t is =
      ap (λ r. role_from r (bytes_of text t.span))
      (mark_is 123 t.role (and_first (is_mark 123 t.role) (not (is_after_linkage b)) is))

  rise_from : (n : ℕ) (a : Attribute) (b : Before) (ts : List Token) → Rising ts
      → AllByRecursion (From n) ts → Rise n (kept_from a (tokens_from text b ts))
  unfolding kept_from tokens_from
  rise_from n a b [] rising from = tt
  rise_from n a b (t ∷ ts) rising from =
      let x = token_after text b t in
      let xs = tokens_from text (before_after b t) ts in
      let next = next_attribute a (x ∷ xs) in
      let short = rising.0 in
      elim (leaves_out a (x ∷ xs)) as (λ l. Rise n (cond l (kept_from next xs) (x ∷ kept_from next xs))) [
        | true ↦ rise_from n next (before_after b t) ts rising.2 from.1
        | false ↦ (
          from.0,
          (
            counted_is b t,
            rise_from (suc t.span.start) next (before_after b t) ts rising.2
                (all_implied (From t.span.end) (From (suc t.span.start)) (λ y le. omega (arith, le)) ts
                rising.1),
          ),
        )
      ]

  read_from : (a : Attribute) (b : Before) (ts : List Token)
      → AllByRecursion IsRead (kept_from a (tokens_from text b ts))
  unfolding kept_from tokens_from
  read_from a b [] = tt
  read_from a b (t ∷ ts) =
      let x = token_after text b t in
      let xs = tokens_from text (before_after b t) ts in
      let next = next_attribute a (x ∷ xs) in
      elim (leaves_out a (x ∷ xs)) as
      (λ l. AllByRecursion IsRead (cond l (kept_from next xs) (x ∷ kept_from next xs))) [
        | true ↦ read_from next (before_after b t) ts
        | false ↦ (sign_of text 125 t, read_from next (before_after b t) ts)
      ]

  all_from_0 : (ts : List Token) → AllByRecursion (From 0) ts
  all_from_0 [] = tt
  all_from_0 (t ∷ ts) = (omega arith, all_from_0 ts)

  -- the bare tokens of the code
  pub rise_of_bare : (ts : List Token) → Rising ts → Rise 0 (without_attributes (wide_tokens text ts))
  rise_of_bare ts rising =
      subst (Rise 0) (ap (kept_from Outside) (tokens_are text ts) ∙ kept_from_start (wide_tokens text ts))
      (rise_from 0 Outside Anything ts rising (all_from_0 ts))

  pub read_of_bare : (ts : List Token) → AllByRecursion IsRead (without_attributes (wide_tokens text ts))
  read_of_bare ts =
      subst (AllByRecursion IsRead)
      (ap (kept_from Outside) (tokens_are text ts) ∙ kept_from_start (wide_tokens text ts))
      (read_from Outside Anything ts)
