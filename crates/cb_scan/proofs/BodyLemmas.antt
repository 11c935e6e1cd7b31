-- The one pass knows whose body it is in: it finds the ranges of the functions and the calls in
-- their bodies.
use Rattle.std.proofs.Common.{◌≡◌, ◌∙◌, ℕ, zero, suc, ◌+◌, ◌<◌, Bool, true, false, List, [], ◌∷◌}
use Rattle.std.proofs.Common.{◌++◌, Option, Some, None, refl, sym, ap, subst, length, drop, map}
use Rattle.std.proofs.Common.{arith, length-drop, add-one}
use Rattle.std.proofs.lemmas.List.{drop_more}
use Rattle.std.specs.Prelude.{◌&&◌, ◌==◌, cond, if◌then◌else◌}
use Rattle.std.specs.List.{flat_map, range_with_len}
use Rattle.std.specs.Option.{option_to_list, option_map}
use Rattle.cb_scan.specs.declared.lex.piece.Span.{Span}
use Rattle.cb_scan.specs.declared.lex.token.Token.{Token}
use Rattle.cb_scan.specs.declared.rules.functions.Machine.{Machine}
use Rattle.cb_scan.specs.rules.Depth.{depth, head_start, is_counted, is_stop, no_token, token_at}
use Rattle.cb_scan.specs.rules.Functions.{function_at, function_from, functions, signature}
use Rattle.cb_scan.specs.rules.Heads.{Signature}
use Rattle.cb_scan.specs.rules.Scope.{function_range}
use Rattle.cb_scan.specs.lex.Tokens.{is_mark}
use Rattle.cb_scan.specs.rules.Uses.{call_of, calls_of_function, function_calls}
use Rattle.cb_scan.specs.steps.Functions.{call_before, called, calls_from, closed, found, grown}
use Rattle.cb_scan.specs.steps.Functions.{next, next_body, range_to, ranges_from, start}
use Rattle.cb_scan.specs.steps.Heads.{empty_head}
use Rattle.cb_scan.proofs.Bodies.{def_name, last_at, no_name}
use Rattle.cb_scan.proofs.FunctionLemmas.{IsAt, depth_next, found_as, last_grown, step, stops_is}
use Rattle.cb_scan.proofs.OpenBodies.{body_at, called_at, calls_after, calls_whole, closed_at}
use Rattle.cb_scan.proofs.OpenBodies.{function_named, name_span, ranges_after, ranges_whole}
use Rattle.cb_scan.proofs.OpenBodies.{same_name}
use Rattle.cb_scan.proofs.OpenCalls.{token_before}

-- a stop is no name, so that it is no call
told_before : (ts : List Token) (k : ℕ) (o : Option Span)
    → option_to_list (call_before o (last_at ts k) (token_at ts k))
    ≡ option_to_list (call_before o (token_before ts k) (token_at ts k))
told_before ts zero o = refl
told_before ts (suc k) None = refl
told_before ts (suc k) (Some caller) = by_stop (is_stop ts k) refl
  where
    by_stop : (b : Bool) → is_stop ts k ≡ b
        → option_to_list (call_before (Some caller) (if b then None else Some (token_at ts k))
        (token_at ts (suc k)))
        ≡ option_to_list (call_before (Some caller) (Some (token_at ts k)) (token_at ts (suc k)))
    by_stop true is =
        let call = Some (call_of caller (token_at ts k)) in
        let opens = is_mark 40 (token_at ts (suc k)).role in
        sym (ap (λ n. option_to_list (cond (n && opens) call None))
        (no_name (token_at ts k).role _ _ _ is))
    by_stop false is = refl

module _ (text : List ℕ) (ts : List Token) where
  -- what names the function whose `{` token k is, if one is
  abbrev names : ℕ → Option Signature
  names k = if is_counted ts k && depth ts k == 0 then signature ts k else None

  none : (k : ℕ) → (is_counted ts k && depth ts k == 0) ≡ false → names k ≡ None
  none k shut = ap (λ b. if b then signature ts k else None) shut

  -- the functions are those of these names
  functions_are : (k : ℕ) → function_named text ts names none k ≡ function_at ts k
  functions_are k = elim (is_counted ts k && depth ts k == 0) as
      (λ b. function_from ts k (if b then signature ts k else None)
      ≡ (if b then function_from ts k (signature ts k) else [])) [ true ↦ refl | false ↦ refl ]

  -- what the state before token k knows
  record InBody (k : ℕ) (m : Machine) : Type 0 where
    at : IsAt ts k m
    last_is : m.head.last ≡ last_at ts k
    body_is : m.body ≡ body_at text ts names none k

  module _ (k : ℕ) (m : Machine) (here : InBody k m) where
    body_next : next_body m (token_at ts k) ≡ body_at text ts names none (suc k)
    unfolding body_at
    body_next =
        let found_name : option_map def_name (found m (token_at ts k))
        ≡ option_map name_span (names k) =
        ap (option_map def_name) (found_as ts k m here.at) ∙ same_name (names k) in
        λ i. if here.at.depth_is i == 0 then found_name i
        else (if depth_next ts k m here.at i == 0 then None else here.body_is i)

    last_next : (next m (token_at ts k)).head.last ≡ last_at ts (suc k)
    unfolding next
    last_next =
        (λ i. (if stops_is ts k m here.at i then empty_head else grown m (token_at ts k)).last)
        ∙ by_stop (is_stop ts k)
      where
        by_stop : (b : Bool) → (if b then empty_head else grown m (token_at ts k)).last
            ≡ (if b then None else Some (token_at ts k))
        by_stop true = refl
        by_stop false = last_grown m (token_at ts k)

    in_body_next : k < length ts → InBody (suc k) (next m (token_at ts k))
    unfolding next
    in_body_next within = record {
      at = step ts k m here.at within;
      last_is = last_next;
      body_is = body_next;
    }

    closed_is : closed m (token_at ts k) ≡ closed_at text ts names none k
    closed_is = λ i. if is_mark 125 (token_at ts k).role && depth_next ts k m here.at i == 0
        then option_map (range_to (token_at ts k).span.end) (here.body_is i) else None

    called_is : option_to_list (called m (token_at ts k))
        ≡ option_to_list (called_at text ts names none k)
    called_is =
        (λ i. option_to_list (call_before (here.body_is i) (here.last_is i) (token_at ts k)))
        ∙ told_before ts k (body_at text ts names none k)

  -- the token that is next, and the state after it
  record Goes (k : ℕ) (t : Token) (rest : List Token) (m : Machine) : Type 0 where
    token_is : token_at ts k ≡ t
    rest_is : drop (suc k) ts ≡ rest
    here_next : InBody (suc k) (next m t)

  goes_on : (k : ℕ) (m : Machine) (t : Token) (rest : List Token) → drop k ts ≡ t ∷ rest
      → InBody k m → Goes k t rest m
  goes_on k m t rest left here =
      let within : k < length ts = omega (arith, length-drop k ts, ap length left) in
      let split : token_at ts k ∷ drop (k + 1) ts ≡ t ∷ rest =
      sym (drop_more ts k no_token within) ∙ left in
      let t_is : token_at ts k ≡ t = cc in
      let rest_is : drop (k + 1) ts ≡ rest = cc in
      record {
        token_is = t_is;
        rest_is = ap (λ j. drop j ts) (sym (add-one k)) ∙ rest_is;
        here_next = subst (λ u. InBody (suc k) (next m u)) t_is (in_body_next k m here within);
      }

  -- from token k on
  ranges_are : (k : ℕ) (m : Machine) (rest : List Token) → drop k ts ≡ rest → InBody k m
      → ranges_from (length text) m rest ≡ ranges_after text ts names none (length rest) k
  unfolding ranges_after
  ranges_are k m [] left here =
      ap (λ o. option_to_list (option_map (range_to (length text)) o)) here.body_is
  ranges_are k m (t ∷ rest) left here =
      let on = goes_on k m t rest left here in
      (λ i. option_to_list (closed m (sym on.token_is i))
      ++ ranges_are (suc k) (next m t) rest on.rest_is on.here_next i)
      ∙ ap (λ o. option_to_list o ++ ranges_after text ts names none (length rest) (suc k))
      (closed_is k m here)

  calls_are : (k : ℕ) (m : Machine) (rest : List Token) → drop k ts ≡ rest → InBody k m
      → calls_from m rest ≡ calls_after text ts names none (length rest) k
  unfolding calls_after
  calls_are k m [] left here = refl
  calls_are k m (t ∷ rest) left here =
      let on = goes_on k m t rest left here in
      (λ i. option_to_list (called m (sym on.token_is i))
      ++ calls_are (suc k) (next m t) rest on.rest_is on.here_next i)
      ∙ ap (λ l. l ++ calls_after text ts names none (length rest) (suc k)) (called_is k m here)

  start_in_body : InBody 0 start
  unfolding depth head_start body_at
  start_in_body = record {
    at = record {
      depth_is = refl;
      linkage_is = refl;
      extern_is = refl;
      head_is = λ _. refl;
      empty_is = refl;
      opened_is = refl;
    };
    last_is = refl;
    body_is = refl;
  }

  -- all of the code
  pub ranges_from_start : ranges_from (length text) start ts
      ≡ map (function_range text ts) (functions ts)
  ranges_from_start =
      let ks = range_with_len 0 (length ts) in
      ranges_are 0 start ts refl start_in_body
      ∙ ranges_whole text ts names none
      ∙ ap (λ f. map (function_range text ts) (flat_map f ks)) (λ j k. functions_are k j)

  pub calls_from_start : calls_from start ts ≡ function_calls ts
  calls_from_start =
      let ks = range_with_len 0 (length ts) in
      calls_are 0 start ts refl start_in_body
      ∙ calls_whole text ts names none
      ∙ ap (λ f. flat_map (calls_of_function ts) (flat_map f ks)) (λ j k. functions_are k j)
