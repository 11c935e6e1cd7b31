-- The pass reads the tokens of the code as the rules do.
use Rattle.std.proofs.Common.{◌≡◌, ◌∙◌, ℕ, suc, ◌+◌, ◌<◌, List, [], ◌∷◌, refl, sym, ap, length, drop, map}
use Rattle.std.proofs.Common.{arith, length-drop, add-one, subst}
use Rattle.std.proofs.lemmas.List.{drop_more}
use Rattle.std.specs.Prelude.{◌&&◌, not}
use Rattle.std.specs.List.{range_with_len}
use Rattle.cb_scan.specs.declared.lex.token.Token.{Token}
use Rattle.cb_scan.specs.declared.rules.functions.Before.{Before}
use Rattle.cb_scan.specs.declared.rules.functions.Before.TheVariants.{Anything}
use Rattle.cb_scan.specs.lex.Tokens.{is_str}
use Rattle.cb_scan.specs.rules.Depth.{follows_linkage, is_open, no_token, token_at}
use Rattle.cb_scan.specs.rules.wide.Levels.{wide_token, wide_tokens}
use Rattle.cb_scan.specs.rules.wide.Words.{wide_role}
use Rattle.cb_scan.specs.steps.Functions.{before_after, is_after_extern, is_after_linkage}
use Rattle.cb_scan.specs.steps.wide.Tokens.{token_after, tokens_from}
use Rattle.cb_scan.proofs.FunctionLemmas.{extern_after, follows_after, follows_extern, linkage_after}

module _ (text : List ℕ) (ts : List Token) where
  -- what is directly before token k
  record Follows (k : ℕ) (b : Before) : Type 0 where
    linkage : is_after_linkage b ≡ follows_linkage ts k
    extern : is_after_extern b ≡ follows_extern ts k

  next : (k : ℕ) (b : Before) → Follows k b → Follows (suc k) (before_after b (token_at ts k))
  next k b before = record {
    linkage = linkage_after b (token_at ts k).role
        ∙ ap (λ e. e && is_str (token_at ts k).role) before.extern
        ∙ follows_after ts k;
    extern = extern_after b (token_at ts k).role;
  }

  here : (k : ℕ) (b : Before) → Follows k b → token_after text b (token_at ts k) ≡ wide_token text ts k
  here k b before = (λ i. record {
    token = token_at ts k;
    role = wide_role text (token_at ts k);
    counted = is_open ts k && not (before.linkage i);
  })

  from : (k : ℕ) (rest : List Token) (b : Before) → drop k ts ≡ rest → Follows k b
      → tokens_from text b rest ≡ map (wide_token text ts) (range_with_len k (length rest))
  unfolding tokens_from
  from k [] b left before = refl
  from k (t ∷ rest) b left before =
      let within : k < length ts = omega (arith, length-drop k ts, ap length left) in
      let split : token_at ts k ∷ drop (k + 1) ts ≡ t ∷ rest = sym (drop_more ts k no_token within) ∙ left in
      let t_is : token_at ts k ≡ t = cc in
      let rest_is : drop (k + 1) ts ≡ rest = cc in
      (λ i. token_after text b (sym t_is i) ∷ tokens_from text (before_after b (sym t_is i)) rest)
      ∙ ap (λ x. x ∷ tokens_from text (before_after b (token_at ts k)) rest) (here k b before)
      ∙ ap (λ l. wide_token text ts k ∷ l)
      (from (k + 1) rest (before_after b (token_at ts k)) rest_is
      (subst (λ j. Follows j (before_after b (token_at ts k))) (sym (add-one k)) (next k b before)))

  at_start : Follows 0 Anything
  at_start = record { linkage = refl; extern = refl }

  -- the pass over the code
  pub tokens_are : tokens_from text Anything ts ≡ wide_tokens text ts
  tokens_are = from 0 ts Anything refl at_start
