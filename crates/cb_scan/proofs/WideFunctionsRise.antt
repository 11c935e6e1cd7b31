-- The functions of the wide profile come in the order of their names.
use Rattle.std.proofs.Common.{◌≡◌, ◌∙◌, ℕ, zero, suc, Bool, true, false, List, [], ◌∷◌, refl, sym, ap}
use Rattle.std.proofs.Common.{subst, drop, length, map, Option, Some, None, ◌<◌}
use Rattle.std.proofs.lemmas.Bool.{true≢false}
use Rattle.std.specs.Prelude.{◌&&◌, ◌==◌, cond, not, slice_get, take}
use Rattle.std.specs.List.{AllByRecursion, flat_map}
use Rattle.std.specs.Option.{MatchOption, option_map, option_or, option_to_list}
use Rattle.cb_scan.specs.declared.lex.token.Token.{Token}
use Rattle.cb_scan.specs.declared.rules.functions.Before.{Before}
use Rattle.cb_scan.specs.declared.rules.functions.Before.TheVariants.{Anything}
use Rattle.cb_scan.specs.declared.rules.wide.token.WideToken.{WideToken}
use Rattle.cb_scan.specs.rules.Depth.{depth, head_start, is_counted, token_at}
use Rattle.cb_scan.specs.rules.Functions.{Function, function_from}
use Rattle.cb_scan.specs.rules.Heads.{Signature, called_name, head, may_define}
use Rattle.cb_scan.specs.rules.OldStyle.{segments, semicolons_before}
use Rattle.cb_scan.specs.rules.Typedefs.{nesting_after}
use Rattle.cb_scan.specs.rules.wide.Bodies.{Body, opens_body}
use Rattle.cb_scan.specs.rules.wide.Functions.{declared_by, declared_names, head_parts, head_prototype, plain}
use Rattle.cb_scan.specs.rules.wide.Functions.{signature_from, wide_function_at, wide_functions, wide_head}
use Rattle.cb_scan.specs.rules.wide.Functions.{wide_name, wide_signature}
use Rattle.cb_scan.specs.rules.wide.Levels.{Numbered, is_outer_byte, numbered, wide_tokens}
use Rattle.cb_scan.specs.rules.wide.Prototypes.{prototype_name}
use Rattle.cb_scan.specs.steps.Functions.{before_after}
use Rattle.cb_scan.specs.steps.wide.Tokens.{tokens_from}
use Rattle.cb_scan.proofs.FunctionsRise.{HasByte, names_rise_from}
use Rattle.cb_scan.proofs.Rising.{Rising}
use Rattle.cb_scan.proofs.WideNames.{All, If, prototype_if}
use Rattle.cb_scan.proofs.WideRuns.{kept_all}
use Rattle.cb_scan.proofs.WideTokens.{tokens_are}
use Rattle.cb_scan.proofs.WithinLemmas.{AllOfAll, all-append, all-split, called-among, head_of_all}
use Rattle.cb_scan.proofs.WithinLemmas.{heads_of_all, old_among, signed_among}

-- a test on the token alone
abbrev Plainly : (Token → Type 0) → WideToken → Type 0
Plainly P x = P x.token

-- ---- plain tokens

plain_tokens : (text : List ℕ) (b : Before) (ts : List Token) → plain (tokens_from text b ts) ≡ ts
unfolding tokens_from
plain_tokens text b [] = refl
plain_tokens text b (t ∷ ts) = ap (λ l. t ∷ l) (plain_tokens text (before_after b t) ts)

module _ (P : Token → Type 0) where
  of_plain : (h k : ℕ) (ws : List WideToken) → AllByRecursion P (drop h (take k (plain ws)))
      → AllByRecursion (Plainly P) (drop h (take k ws))
  of_plain zero zero ws all = tt
  of_plain (suc h) zero ws all = tt
  of_plain zero (suc k) [] all = tt
  of_plain (suc h) (suc k) [] all = tt
  of_plain zero (suc k) (w ∷ ws) all = (all.0, of_plain zero k ws all.1)
  of_plain (suc h) (suc k) (w ∷ ws) all = of_plain h k ws all

  to_plain : (ws : List WideToken) → AllByRecursion (Plainly P) ws → AllByRecursion P (plain ws)
  to_plain [] all = tt
  to_plain (w ∷ ws) all = (all.0, to_plain ws all.1)

  all_numbered : (n : ℕ) (ws : List WideToken) → AllByRecursion (Plainly P) ws → All (Plainly P) (numbered n ws)
  unfolding numbered
  all_numbered n [] all = tt
  all_numbered n (w ∷ ws) all = (all.0, all_numbered (nesting_after w.token n) ws all.1)

  -- ---- the name that a head defines
  declared_all : (first : Bool) (part : List Numbered) → All (Plainly P) part
      → AllByRecursion (Plainly P) (declared_by first part)
  declared_all first part all =
      by_name (prototype_name (record { first = first; tokens = part; passed = [] }))
      (prototype_if (Plainly P) (record { first = first; tokens = part; passed = [] }) all)
    where
      by_name : (o : Option WideToken) → If (Plainly P) o → AllByRecursion (Plainly P) (option_to_list o)
      by_name None has = tt
      by_name (Some x) has = (has, tt)

  later_all : (parts : List (List Numbered)) → AllByRecursion (All (Plainly P)) parts
      → AllByRecursion (Plainly P) (flat_map (declared_by false) parts)
  later_all [] all = tt
  later_all (part ∷ parts) all =
      all-append (Plainly P) (declared_by false part) (flat_map (declared_by false) parts)
      (declared_all false part all.0) (later_all parts all.1)

  names_all : (parts : List (List Numbered)) → AllByRecursion (All (Plainly P)) parts
      → AllByRecursion (Plainly P) (declared_names parts)
  names_all [] all = tt
  names_all (part ∷ parts) all =
      all-append (Plainly P) (declared_by true part) (flat_map (declared_by false) parts)
      (declared_all true part all.0) (later_all parts all.1)

  prototype_of_head : (h : List WideToken) → AllByRecursion (Plainly P) h
      → MatchOption (head_prototype h) (Unit {0}) P
  prototype_of_head h all =
      by_first (declared_names (head_parts h))
      (names_all (head_parts h)
      (all-split (λ (m : Numbered). P m.item.token) (is_outer_byte 44) (numbered 0 h) (all_numbered 0 h all)))
    where
      by_first : (ws : List WideToken) → AllByRecursion (Plainly P) ws
          → MatchOption (option_map (λ (x : WideToken). x.token) (slice_get ws 0)) (Unit {0}) P
      by_first [] has = tt
      by_first (w ∷ ws) has = has.0

  name_of_head : (h : List WideToken) → AllByRecursion (Plainly P) h
      → MatchOption (wide_name h) (Unit {0}) P
  name_of_head h all =
      elim (may_define (plain h)) as
      (λ b. MatchOption (cond b (option_or (head_prototype h) (called_name (plain h))) None) (Unit {0}) P) [
        | true ↦ either (head_prototype h) (prototype_of_head h all) (called_name (plain h))
            (called-among P (plain h) (to_plain h all))
        | false ↦ tt
      ]
    where
      either : (a : Option Token) → MatchOption a (Unit {0}) P → (b : Option Token)
          → MatchOption b (Unit {0}) P → MatchOption (option_or a b) (Unit {0}) P
      either None has_a b has_b = has_b
      either (Some t) has_a b has_b = has_a

  signature_of_head : (h : List WideToken) (ss : List (List Token)) → AllByRecursion (Plainly P) h
      → AllOfAll P ss → MatchOption (signature_from h ss) (Unit {0}) (λ s. P s.name)
  signature_of_head [] ss all segs = old_among P ss segs
  signature_of_head (x ∷ xs) ss all segs =
      signed_among P (plain (x ∷ xs)) (wide_name (x ∷ xs)) (name_of_head (x ∷ xs) all)

-- ---- the functions of a text
module _ (text : List ℕ) (ts : List Token) (bs : List Body) where
  abbrev all : List WideToken
  all = wide_tokens text ts

  pub plain_is : plain all ≡ ts
  plain_is = sym (ap plain (tokens_are text ts)) ∙ plain_tokens text Anything ts

  wide_head_all : (P : Token → Type 0) (k : ℕ) → AllByRecursion P (head ts k)
      → AllByRecursion (Plainly P) (wide_head ts all k)
  wide_head_all P k has =
      kept_all (Plainly P) 0 (drop (head_start ts k) (take k all))
      (of_plain P (head_start ts k) k all
      (subst (λ l. AllByRecursion P (drop (head_start ts k) (take k l))) (sym plain_is) has))

  segments_all : (P : Token → Type 0) (js : List ℕ) → AllOfAll P (map (head ts) js)
      → AllOfAll P (map (λ j. plain (wide_head ts all j)) js)
  segments_all P [] has = tt
  segments_all P (j ∷ js) has =
      (to_plain P (wide_head ts all j) (wide_head_all P j has.0), segments_all P js has.1)

  signature_all : (P : Token → Type 0) (k : ℕ) → AllByRecursion P (head ts k) → AllOfAll P (segments ts k)
      → MatchOption (wide_signature ts all k) (Unit {0}) (λ s. P s.name)
  signature_all P k has segs =
      signature_of_head P (wide_head ts all k) (map (λ j. plain (wide_head ts all j)) (semicolons_before ts k))
      (wide_head_all P k has) (segments_all P (semicolons_before ts k) segs)

  pub named : (P : Token → Type 0) (k : ℕ) → AllByRecursion P (head ts k) → AllOfAll P (segments ts k)
      → AllByRecursion P (map (λ (f : Function). f.name) (wide_function_at ts all bs k))
  named P k has segs =
      by_cases (is_counted ts k && depth ts k == 0 && not (opens_body bs (token_at ts k).span.start))
      (wide_signature ts all k) (signature_all P k has segs)
    where
      by_cases : (b : Bool) (o : Option Signature) → MatchOption o (Unit {0}) (λ s. P s.name)
          → AllByRecursion P (map (λ (f : Function). f.name) (cond b (function_from ts k o) []))
      by_cases true None p = tt
      by_cases true (Some s) p = (p, tt)
      by_cases false o p = tt

  none : (k : ℕ) → (is_counted ts k && depth ts k == 0) ≡ false → wide_function_at ts all bs k ≡ []
  none k isnt =
      ap (λ b. cond b (function_from ts k (wide_signature ts all k)) [])
      (by_tests (is_counted ts k) (depth ts k == 0) (not (opens_body bs (token_at ts k).span.start)) isnt)
    where
      by_tests : (a b c : Bool) → (a && b) ≡ false → (a && b && c) ≡ false
      by_tests true true c is = absurd (true≢false is)
      by_tests true false c is = refl
      by_tests false b c is = refl

  one : (k : ℕ) → AllByRecursion HasByte ts
      → Rising (map (λ (f : Function). f.name) (wide_function_at ts all bs k))
  unfolding HasByte
  one k has =
      by_cases (is_counted ts k && depth ts k == 0 && not (opens_body bs (token_at ts k).span.start))
      (wide_signature ts all k)
      (signature_all HasByte k (head_of_all HasByte ts has k) (heads_of_all HasByte ts has (semicolons_before ts k)))
    where
      by_cases : (b : Bool) (o : Option Signature)
          → MatchOption o (Unit {0}) (λ s. s.name.span.start < s.name.span.end)
          → Rising (map (λ (f : Function). f.name) (cond b (function_from ts k o) []))
      by_cases true None p = tt
      by_cases true (Some s) p = (p, tt, tt)
      by_cases false o p = tt

  pub wide_functions_rise : Rising ts → Rising (map (λ (f : Function). f.name) (wide_functions ts all bs))
  wide_functions_rise rising = names_rise_from ts (wide_function_at ts all bs) named none one 0 (length ts) rising
