-- The pass over all tokens of the code finds the ranges of the functions of the wide profile and
-- the calls in their bodies.
use Rattle.std.proofs.Common.{◌≡◌, ◌∙◌, ℕ, zero, suc, ◌+◌, Bool, true, false, List, [], ◌∷◌, ◌++◌}
use Rattle.std.proofs.Common.{Option, None, refl, sym, ap, subst, length, drop, map}
use Rattle.std.proofs.Common.{add-one}
use Rattle.std.specs.Prelude.{◌&&◌, ◌==◌, not, if◌then◌else◌}
use Rattle.std.specs.List.{flat_map, range_with_len}
use Rattle.std.specs.Option.{option_map, option_to_list}
use Rattle.cb_scan.specs.declared.facts.Def.{Def}
use Rattle.cb_scan.specs.declared.lex.token.Token.{Token}
use Rattle.cb_scan.specs.rules.Depth.{depth, depth_after, is_counted, token_at}
use Rattle.cb_scan.specs.rules.Functions.{function_from}
use Rattle.cb_scan.specs.rules.Heads.{Signature}
use Rattle.cb_scan.specs.rules.Scope.{function_range}
use Rattle.cb_scan.specs.rules.Uses.{calls_in, calls_of_function}
use Rattle.cb_scan.specs.rules.wide.Attributes.{without_attributes}
use Rattle.cb_scan.specs.rules.wide.Bodies.{Body, opens_body}
use Rattle.cb_scan.specs.rules.wide.Functions.{wide_function_at, wide_functions, wide_signature}
use Rattle.cb_scan.specs.steps.Functions.{call_before, range_to}
use Rattle.cb_scan.specs.steps.wide.Functions.{opened_from, start}
use Rattle.cb_scan.specs.steps.wide.Ranges.{Inside, called, calls_from, closed, entered}
use Rattle.cb_scan.specs.steps.wide.Ranges.{later_opened, next, next_body, next_depth, next_opened}
use Rattle.cb_scan.specs.steps.wide.Ranges.{outside, ranges_from}
use Rattle.cb_scan.proofs.Bodies.{def_name}
use Rattle.cb_scan.proofs.HeadLemmas.{signature_def}
use Rattle.cb_scan.proofs.OpenBodies.{body_at, called_at, calls_after, calls_whole, closed_at}
use Rattle.cb_scan.proofs.OpenBodies.{function_named, name_span, ranges_after, ranges_whole}
use Rattle.cb_scan.proofs.OpenBodies.{same_name}
use Rattle.cb_scan.proofs.OpenCalls.{token_before}
use Rattle.cb_scan.proofs.WideFunctions.{all, is_sign_of, item, named_at, opened_are, opened_at}

module _ (text : List ℕ) (ts : List Token) (bs : List Body) where
  -- what names the function whose `{` token k is, if one is
  abbrev names : ℕ → Option Signature
  names k = if is_counted ts k && depth ts k == 0 then named_at text ts bs k else None

  none : (k : ℕ) → (is_counted ts k && depth ts k == 0) ≡ false → names k ≡ None
  none k shut = ap (λ b. if b then named_at text ts bs k else None) shut

  -- the functions are those of these names
  functions_are : (k : ℕ)
      → function_named text ts names none k ≡ wide_function_at ts (all text ts bs) bs k
  functions_are k =
      by_tests (is_counted ts k && depth ts k == 0) (not (opens_body bs (token_at ts k).span.start))
    where
      by_tests : (c b : Bool)
          → function_from ts k
          (if c then (if b then wide_signature ts (all text ts bs) k else None) else None)
          ≡ (if c && b then function_from ts k (wide_signature ts (all text ts bs) k) else [])
      by_tests true true = refl
      by_tests true false = refl
      by_tests false b = refl

  -- ---- the state before a token

  record IsInside (k : ℕ) (i : Inside) : Type 0 where
    depth_is : i.depth ≡ depth ts k
    last_is : i.last ≡ token_before ts k
    body_is : i.body ≡ body_at text ts names none k

  -- what the braces from token k on open
  abbrev opened_rest : ℕ → ℕ → List (Option Def)
  opened_rest n k = flat_map (opened_at text ts bs) (range_with_len k n)

  module _ (k : ℕ) (i : Inside) (later : List (Option Def)) (here : IsInside k i) where
    abbrev opened : List (Option Def)
    opened = opened_at text ts bs k ++ later

    later_is : later_opened i opened (item text ts bs k) ≡ later
    later_is =
        ap (λ d. if is_counted ts k && d == 0 then drop 1 opened else opened) here.depth_is
        ∙ by_test (is_counted ts k && depth ts k == 0)
      where
        by_test : (b : Bool)
            → (if b
            then drop 1 ((if b then option_map signature_def (named_at text ts bs k) ∷ [] else [])
            ++ later)
            else (if b then option_map signature_def (named_at text ts bs k) ∷ [] else []) ++ later)
            ≡ later
        by_test true = refl
        by_test false = refl

    depth_next : next_depth i (item text ts bs k) ≡ depth ts (suc k)
    unfolding depth
    depth_next = ap (depth_after (is_counted ts k) (token_at ts k)) here.depth_is

    body_next : next_body i (next_opened opened) (item text ts bs k)
        ≡ body_at text ts names none (suc k)
    unfolding body_at
    body_next =
        (λ j. if here.depth_is j == 0 then entered (next_opened opened) (item text ts bs k)
        else (if depth_next j == 0 then None else here.body_is j))
        ∙ by_tests (is_counted ts k) (depth ts k == 0)
      where
        by_tests : (c flat : Bool)
            → (if flat then (if c then option_map def_name (next_opened
            ((if c && flat then option_map signature_def (named_at text ts bs k) ∷ [] else [])
            ++ later)) else None)
            else (if depth ts (suc k) == 0 then None else body_at text ts names none k))
            ≡ (if flat
            then option_map name_span (if c && flat then named_at text ts bs k else None)
            else (if depth ts (suc k) == 0 then None else body_at text ts names none k))
        by_tests true true = same_name (named_at text ts bs k)
        by_tests false true = refl
        by_tests c false = refl

    next_is : IsInside (suc k) (next i (next_opened opened) (item text ts bs k))
    next_is = record { depth_is = depth_next; last_is = refl; body_is = body_next }

    closed_is : closed i (item text ts bs k) ≡ closed_at text ts names none k
    closed_is = λ j. if is_sign_of text ts bs 125 k j && depth_next j == 0
        then option_map (range_to (token_at ts k).span.end) (here.body_is j) else None

    called_is : called i (item text ts bs k) ≡ called_at text ts names none k
    called_is = λ j. call_before (here.body_is j) (here.last_is j) (token_at ts k)

  at_start : IsInside 0 outside
  unfolding depth body_at
  at_start = record { depth_is = refl; last_is = refl; body_is = refl }

  -- ---- the pass

  -- from token k on
  ranges_rest : (n k : ℕ) (i : Inside) → IsInside k i
      → ranges_from (length text) i (opened_rest n k)
      (map (item text ts bs) (range_with_len k n))
      ≡ ranges_after text ts names none n k
  unfolding ranges_from ranges_after
  ranges_rest zero k i here =
      ap (λ o. option_to_list (option_map (range_to (length text)) o)) here.body_is
  ranges_rest (suc n) k i here =
      let later = opened_rest n (k + 1) in
      let on = next i (next_opened (opened_at text ts bs k ++ later)) (item text ts bs k) in
      let xs = map (item text ts bs) (range_with_len (k + 1) n) in
      let here_next : IsInside (k + 1) on =
      subst (λ j. IsInside j on) (sym (add-one k)) (next_is k i later here) in
      (λ j. option_to_list (closed_is k i later here j)
      ++ ranges_from (length text) on (later_is k i later here j) xs)
      ∙ ap (λ l. option_to_list (closed_at text ts names none k) ++ l)
      (ranges_rest n (k + 1) on here_next ∙ ap (ranges_after text ts names none n) (add-one k))

  calls_rest : (n k : ℕ) (i : Inside) → IsInside k i
      → calls_from i (opened_rest n k) (map (item text ts bs) (range_with_len k n))
      ≡ calls_after text ts names none n k
  unfolding calls_from calls_after
  calls_rest zero k i here = refl
  calls_rest (suc n) k i here =
      let later = opened_rest n (k + 1) in
      let on = next i (next_opened (opened_at text ts bs k ++ later)) (item text ts bs k) in
      let xs = map (item text ts bs) (range_with_len (k + 1) n) in
      let here_next : IsInside (k + 1) on =
      subst (λ j. IsInside j on) (sym (add-one k)) (next_is k i later here) in
      (λ j. option_to_list (called_is k i later here j)
      ++ calls_from on (later_is k i later here j) xs)
      ∙ ap (λ l. option_to_list (called_at text ts names none k) ++ l)
      (calls_rest n (k + 1) on here_next ∙ ap (calls_after text ts names none n) (add-one k))

  -- the pass over the code
  pub ranges_are :
      ranges_from (length text) outside (opened_from bs start (without_attributes (all text ts bs)))
      (all text ts bs)
      ≡ map (function_range text ts) (wide_functions ts (all text ts bs) bs)
  ranges_are =
      let ks = range_with_len 0 (length ts) in
      ap (λ o. ranges_from (length text) outside o (all text ts bs)) (opened_are text ts bs)
      ∙ ranges_rest (length ts) 0 outside at_start
      ∙ ranges_whole text ts names none
      ∙ ap (λ f. map (function_range text ts) (flat_map f ks)) (λ j k. functions_are k j)

  pub calls_are :
      calls_from outside (opened_from bs start (without_attributes (all text ts bs)))
      (all text ts bs)
      ≡ calls_in ts (wide_functions ts (all text ts bs) bs)
  calls_are =
      let ks = range_with_len 0 (length ts) in
      ap (λ o. calls_from outside o (all text ts bs)) (opened_are text ts bs)
      ∙ calls_rest (length ts) 0 outside at_start
      ∙ calls_whole text ts names none
      ∙ ap (λ f. flat_map (calls_of_function ts) (flat_map f ks)) (λ j k. functions_are k j)
