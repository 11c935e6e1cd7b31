-- The definitions of a text are names of it, by each profile.
use Rattle.std.proofs.Common.{◌≡◌, ℕ, Bool, true, false, List, [], ◌∷◌, ◌++◌, sym, subst, cond}
use Rattle.std.proofs.Common.{drop, length, map, take, Option, Some, None}
use Rattle.std.specs.Prelude.{◌&&◌, ◌==◌, not}
use Rattle.std.specs.List.{AllByRecursion, flat_map, range_with_len}
use Rattle.std.specs.Option.{MatchOption, option_or}
use Rattle.std.proofs.lemmas.Bool.{true≢false}
use Rattle.cb_scan.specs.declared.facts.Def.{Def}
use Rattle.cb_scan.specs.declared.lex.token.Token.{Token}
use Rattle.cb_scan.specs.declared.profile.Profile.{Profile}
use Rattle.cb_scan.specs.declared.profile.Rules.{Rules}
use Rattle.cb_scan.specs.declared.profile.Rules.TheVariants.{Prototypes, Standard, Wide}
use Rattle.cb_scan.specs.declared.rules.wide.token.WideToken.{WideToken}
use Rattle.cb_scan.specs.Definitions.{IsNameOf}
use Rattle.cb_scan.specs.Order.{def_key}
use Rattle.cb_scan.specs.Profiles.{all_definitions, definitions_by, facts_in, is_declaration, kept}
use Rattle.cb_scan.specs.lex.Lexeme.{first_is}
use Rattle.cb_scan.specs.lex.Tokens.{is_name_token}
use Rattle.cb_scan.specs.rules.Code.{code}
use Rattle.cb_scan.specs.rules.Depth.{depth, head_start, is_counted, token_at}
use Rattle.cb_scan.specs.rules.Functions.{Function, function_from}
use Rattle.cb_scan.specs.rules.Heads.{Signature, called_name, may_define}
use Rattle.cb_scan.specs.rules.Macros.{macro_names}
use Rattle.cb_scan.specs.rules.OldStyle.{semicolons_before, signature_of}
use Rattle.cb_scan.specs.rules.Scope.{ranges_of}
use Rattle.cb_scan.specs.rules.wide.Attributes.{without_attributes}
use Rattle.cb_scan.specs.rules.wide.Bodies.{Body, bodies, opens_body}
use Rattle.cb_scan.specs.rules.wide.Declarations.{Part}
use Rattle.cb_scan.specs.rules.wide.Functions.{declared_by, declared_names, head_parts}
use Rattle.cb_scan.specs.rules.wide.Functions.{head_prototype, plain, signature_from}
use Rattle.cb_scan.specs.rules.wide.Functions.{wide_function_at, wide_head, wide_name}
use Rattle.cb_scan.specs.rules.wide.Functions.{wide_signature}
use Rattle.cb_scan.specs.rules.wide.Kinds.{bare_tokens, functions_of, wide_found, wide_function_def}
use Rattle.cb_scan.specs.rules.wide.Kinds.{wide_macro_def}
use Rattle.cb_scan.specs.rules.wide.Levels.{Numbered, is_outer_byte, numbered, wide_token}
use Rattle.cb_scan.specs.rules.wide.Levels.{wide_tokens}
use Rattle.cb_scan.specs.rules.wide.Prototypes.{prototype_name}
use Rattle.cb_scan.specs.rules.wide.Words.{is_wide_name, wide_role}
use Rattle.cb_scan.specs.steps.Cut.{pieces}
use Rattle.cb_scan.proofs.FactsWithin.{all_in_order}
use Rattle.cb_scan.proofs.TypedefsWithin.{at_any}
use Rattle.cb_scan.proofs.WideBodies.{bodies_are}
use Rattle.cb_scan.proofs.WideRuns.{kept_all}
use Rattle.cb_scan.proofs.WideWithin.{names_of_all}
use Rattle.cb_scan.proofs.WithinLemmas.{AllOfAll, all-append, all-drop, all-filter, all-split}
use Rattle.cb_scan.proofs.WithinLemmas.{all-take, called-among, old_among, signed_among}
use Rattle.cb_scan.proofs.NamedLists.{all-flat, all-made, alone-has, each-made, front-has, if-met}
use Rattle.cb_scan.proofs.NamedLists.{or-has}
use Rattle.cb_scan.proofs.NamedStandard.{called-role, definitions-named, macros-named, old-role}
use Rattle.cb_scan.proofs.NamedTokens.{IsDefNamed, code-sound, code-wide}
use Rattle.cb_scan.proofs.NamedWide.{AreSound, IsBodyNamed, IsPlacedSound, bodies-named, code-named}
use Rattle.cb_scan.proofs.NamedWide.{numbered-have, placed-have, prototype-named}

-- ---- the tokens of heads
plain-have : (P : Token → Type 0) (xs : List WideToken) → AllByRecursion (λ x. P x.token) xs
    → AllByRecursion P (plain xs)
plain-have P [] all = tt
plain-have P (x ∷ xs) all = (all.0, plain-have P xs all.1)

head-has : (P : WideToken → Type 0) (ts : List Token) (xs : List WideToken) (k : ℕ)
    → AllByRecursion P xs → AllByRecursion P (wide_head ts xs k)
head-has P ts xs k all =
    kept_all P 0 (drop (head_start ts k) (take k xs))
    (all-drop P (head_start ts k) (take k xs) (all-take P k xs all))

segments-have : (P : Token → Type 0) (ts : List Token) (xs : List WideToken) (js : List ℕ)
    → AllByRecursion (λ x. P x.token) xs → AllOfAll P (map (λ j. plain (wide_head ts xs j)) js)
segments-have P ts xs [] all = tt
segments-have P ts xs (j ∷ js) all = (
  plain-have P (wide_head ts xs j) (head-has (λ x. P x.token) ts xs j all),
  segments-have P ts xs js all,
)

module _ (text : List ℕ) where
  -- ---- functions
  declared-named : (first : Bool) (part : List Numbered) → AreSound text part
      → AllByRecursion (λ x. IsNameOf text x.token.span) (declared_by first part)
  declared-named first part all =
      let p : Part = record { first = first; tokens = part; passed = [] } in
      alone-has (λ x. IsNameOf text x.token.span) (prototype_name p) (prototype-named text p all)

  names-named : (parts : List (List Numbered)) → AllByRecursion (AreSound text) parts
      → AllByRecursion (λ x. IsNameOf text x.token.span) (declared_names parts)
  names-named [] all = tt
  names-named (part ∷ parts) all =
      all-append (λ x. IsNameOf text x.token.span) (declared_by true part)
      (flat_map (declared_by false) parts) (declared-named true part all.0)
      (all-flat (AreSound text) (λ x. IsNameOf text x.token.span) (declared_by false)
      (declared-named false) parts all.1)

  head-named : (h : List WideToken)
      → AllByRecursion (λ x. is_wide_name x.role ≡ true → IsNameOf text x.token.span) h
      → MatchOption (head_prototype h) (Unit {0}) (λ t. IsNameOf text t.span)
  head-named h all =
      front-has (λ t. IsNameOf text t.span) _ (declared_names (head_parts h))
      (names-named (head_parts h) (all-split _ (is_outer_byte 44) (numbered 0 h)
      (numbered-have _ 0 h all)))

  name-named : (h : List WideToken)
      → AllByRecursion (λ x. is_wide_name x.role ≡ true → IsNameOf text x.token.span) h
      → AllByRecursion (λ x. is_name_token x.token.role ≡ true → IsNameOf text x.token.span) h
      → MatchOption (wide_name h) (Unit {0}) (λ t. IsNameOf text t.span)
  name-named h wide usual =
      elim (may_define (plain h)) as (λ b. MatchOption
      (cond b (option_or (head_prototype h) (called_name (plain h))) None) (Unit {0})
      (λ t. IsNameOf text t.span)) [
        | true ↦ or-has (λ t. IsNameOf text t.span) (head_prototype h) (called_name (plain h))
            (head-named h wide)
            (if-met (λ t. is_name_token t.role ≡ true) (λ t. IsNameOf text t.span)
            (called_name (plain h)) (called-among _ (plain h) (plain-have _ h usual))
            (called-role (plain h)))
        | false ↦ tt
      ]

  signature-named : (h : List WideToken) (ss : List (List Token))
      → AllByRecursion (λ x. is_wide_name x.role ≡ true → IsNameOf text x.token.span) h
      → AllByRecursion (λ x. is_name_token x.token.role ≡ true → IsNameOf text x.token.span) h
      → AllOfAll (λ t. is_name_token t.role ≡ true → IsNameOf text t.span) ss
      → MatchOption (signature_from h ss) (Unit {0}) (λ s. IsNameOf text s.name.span)
  signature-named [] ss wide usual segments =
      if-met (λ s. is_name_token s.name.role ≡ true) (λ s. IsNameOf text s.name.span)
      (signature_of ss)
      (old_among (λ t. is_name_token t.role ≡ true → IsNameOf text t.span) ss segments)
      (old-role ss)
  signature-named (x ∷ xs) ss wide usual segments =
      signed_among (λ t. IsNameOf text t.span) (plain (x ∷ xs)) (wide_name (x ∷ xs))
      (name-named (x ∷ xs) wide usual)

  -- ---- the tokens of the code for the wide rules
  wide-tokens : AllByRecursion (λ x. is_wide_name x.role ≡ true → IsNameOf text x.token.span)
      (wide_tokens text (code text (pieces text)))
  unfolding first_is
  wide-tokens =
      let ts = code text (pieces text) in
      each-made _ (wide_token text ts)
      (λ k. at_any (λ t. is_wide_name (wide_role text t) ≡ true → IsNameOf text t.span) ts k
      (λ _ is. absurd (true≢false (sym is))) (code-wide text)) (range_with_len 0 (length ts))

  usual-tokens :
      AllByRecursion (λ x. is_name_token x.token.role ≡ true → IsNameOf text x.token.span)
      (wide_tokens text (code text (pieces text)))
  usual-tokens =
      let ts = code text (pieces text) in
      each-made _ (wide_token text ts)
      (λ k. at_any (λ t. is_name_token t.role ≡ true → IsNameOf text t.span) ts k
      (λ _ is. absurd (true≢false (sym is))) (code-sound text)) (range_with_len 0 (length ts))

  function-named : (bs : List Body) (k : ℕ) → let ts = code text (pieces text) in
      AllByRecursion (λ t. IsNameOf text t.span)
      (map (λ (f : Function). f.name) (wide_function_at ts (wide_tokens text ts) bs k))
  function-named bs k =
      let ts = code text (pieces text) in
      let xs = wide_tokens text ts in
      by_cases (is_counted ts k && depth ts k == 0
      && not (opens_body bs (token_at ts k).span.start)) (wide_signature ts xs k)
      (signature-named (wide_head ts xs k) _ (head-has _ ts xs k wide-tokens)
      (head-has _ ts xs k usual-tokens)
      (segments-have (λ t. is_name_token t.role ≡ true → IsNameOf text t.span) ts xs
      (semicolons_before ts k) usual-tokens))
    where
      by_cases : (b : Bool) (o : Option Signature)
          → MatchOption o (Unit {0}) (λ s. IsNameOf text s.name.span)
          → AllByRecursion (λ t. IsNameOf text t.span) (map (λ (f : Function). f.name)
          (cond b (function_from (code text (pieces text)) k o) []))
      by_cases true None p = tt
      by_cases true (Some s) p = (p, tt)
      by_cases false o p = tt

  functions-named : AllByRecursion (IsDefNamed text)
      (map wide_function_def (functions_of text (pieces text)))
  functions-named =
      let ts = code text (pieces text) in
      let xs = wide_tokens text ts in
      let bs = bodies (bare_tokens text ts) in
      of_names (functions_of text (pieces text))
      (names_of_all (λ t. IsNameOf text t.span) (wide_function_at ts xs bs) (function-named bs) 0
      (length ts))
    where
      of_names : (fs : List Function) → AllByRecursion (λ t. IsNameOf text t.span)
          (map (λ (f : Function). f.name) fs)
          → AllByRecursion (IsDefNamed text) (map wide_function_def fs)
      of_names [] all = tt
      of_names (f ∷ fs) all = (all.0, of_names fs all.1)

  -- ---- all
  all-named : AllByRecursion (IsDefNamed text) (all_definitions text (pieces text))
  all-named =
      let ts = code text (pieces text) in
      let xs = bare_tokens text ts in
      let fs = functions_of text (pieces text) in
      let ms = macro_names text (pieces text) in
      let sound : AllByRecursion (IsPlacedSound text) xs =
      placed-have _ [] (without_attributes (wide_tokens text ts))
      (kept_all _ 0 (wide_tokens text ts) wide-tokens) in
      let named : AllByRecursion (IsBodyNamed text) (bodies xs) =
      subst (AllByRecursion (IsBodyNamed text)) (sym (bodies_are xs))
      (bodies-named text [] xs tt sound) in
      all_in_order def_key (IsDefNamed text) (wide_found text (pieces text))
      (all-append (IsDefNamed text) (map wide_function_def fs ++ map wide_macro_def ms) _
      (all-append (IsDefNamed text) (map wide_function_def fs) (map wide_macro_def ms)
      functions-named
      (all-made (λ t. IsNameOf text t.span) (IsDefNamed text) wide_macro_def (λ t n. n) ms
      (macros-named text)))
      (code-named text (bodies xs) xs sound (ranges_of text (pieces text) fs) named))

  by-rules : (rules : Rules)
      → AllByRecursion (IsDefNamed text) (definitions_by rules text (pieces text))
  by-rules Standard = definitions-named text
  by-rules Wide =
      all-filter (IsDefNamed text) (λ d. not (is_declaration d.kind))
      (all_definitions text (pieces text)) all-named
  by-rules Prototypes = all-named

  kept-named : (wanted : Bool) (ds : List Def) → AllByRecursion (IsDefNamed text) ds
      → AllByRecursion (IsDefNamed text) (kept wanted ds)
  kept-named true ds all = all
  kept-named false ds all = tt

pub defs-named : (profile : Profile) (text : List ℕ)
    → AllByRecursion (λ (d : Def). IsNameOf text d.name) (facts_in profile text).defs
defs-named profile text =
    kept-named text profile.wanted.defs (definitions_by profile.rules text (pieces text))
    (by-rules text profile.rules)
