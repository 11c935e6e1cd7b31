-- The body that is open before a token, its range and the calls in it, whatever names the functions
-- of the code.
use Rattle.std.proofs.Common.{◌≡◌, ◌∙◌, ℕ, zero, suc, ◌+◌, ◌<◌, ◌≤◌, Bool, true, false, List}
use Rattle.std.proofs.Common.{[], ◌++◌, Option, Some, None, refl, sym, ap, length, map}
use Rattle.std.proofs.Common.{arith, lt-ltb, add-one, zero-add, ⊎_elim, append_assoc}
use Rattle.std.proofs.lemmas.Bool.{true≢false, cases_Bool, eqb-true, false_from_ne_true, ltb-true}
use Rattle.std.proofs.lemmas.List.{append-nil, map-append}
use Rattle.std.proofs.Math.Bool.{and-false}
use Rattle.std.proofs.lemmas.List.Concat.{flat_map-append}
use Rattle.std.specs.Prelude.{◌&&◌, ◌==◌, not, if◌then◌else◌, nat_lt}
use Rattle.std.specs.List.{flat_map, range_with_len}
use Rattle.std.specs.Option.{option_to_list, option_map}
use Rattle.cb_scan.specs.declared.facts.Call.{Call}
use Rattle.cb_scan.specs.declared.lex.piece.Span.{Span}
use Rattle.cb_scan.specs.declared.rules.scope.Range.{Range}
use Rattle.cb_scan.specs.declared.lex.token.Token.{Token}
use Rattle.cb_scan.specs.rules.Depth.{depth, depth_after, follows_linkage, is_counted}
use Rattle.cb_scan.specs.rules.Depth.{closes, token_at}
use Rattle.cb_scan.specs.rules.Functions.{Function, close_from, function_from}
use Rattle.cb_scan.specs.rules.Heads.{Signature}
use Rattle.cb_scan.specs.rules.Scope.{function_range}
use Rattle.cb_scan.specs.lex.Tokens.{is_mark}
use Rattle.cb_scan.specs.rules.Uses.{call_at, calls_of_function}
use Rattle.cb_scan.specs.steps.Functions.{call_before, range_to}
use Rattle.cb_scan.proofs.Bodies.{and_left, and_right, close_end, close_step}
use Rattle.cb_scan.proofs.Bodies.{only_mark}
use Rattle.cb_scan.proofs.Bodies.{def_name, either, stays_deep, place_of}
use Rattle.cb_scan.proofs.HeadLemmas.{signature_def}
use Rattle.cb_scan.proofs.OpenCalls.{call_told, depth_zero, no_call_before, open_calls, open_end}
use Rattle.cb_scan.proofs.OpenCalls.{open_past, open_step, pending, token_before}

-- the place of the name that a signature gives
abbrev pub name_span : Signature → Span
name_span s = s.name.span

pub same_name : (o : Option Signature)
    → option_map def_name (option_map signature_def o) ≡ option_map name_span o
same_name None = refl
same_name (Some s) = refl

-- ---- the signature of the function whose `{` a token is, if one is

module _ (text : List ℕ) (ts : List Token) (named : ℕ → Option Signature)
    (none : (k : ℕ) → (is_counted ts k && depth ts k == 0) ≡ false → named k ≡ None) where
  -- the function whose `{` token k is
  abbrev pub function_named : ℕ → List Function
  function_named k = function_from ts k (named k)

  -- the name of the body that is open before token k
  unfoldable pub body_at : ℕ → Option Span
  body_at zero = None
  body_at (suc k) = if depth ts k == 0 then option_map name_span (named k)
      else (if depth ts (suc k) == 0 then None else body_at k)

  -- the range that token k ends, and the call that it tells
  abbrev pub closed_at : ℕ → Option Range
  closed_at k = if closes ts k then option_map (range_to (token_at ts k).span.end) (body_at k)
      else None

  abbrev pub called_at : ℕ → Option Call
  called_at k = call_before (body_at k) (token_before ts k) (token_at ts k)

  -- the ranges that the next tokens end, and at last the text, and the calls that they tell
  unfoldable pub ranges_after : ℕ → ℕ → List Range
  ranges_after zero k = option_to_list (option_map (range_to (length text)) (body_at k))
  ranges_after (suc n) k = option_to_list (closed_at k) ++ ranges_after n (suc k)

  unfoldable pub calls_after : ℕ → ℕ → List Call
  calls_after zero k = []
  calls_after (suc n) k = option_to_list (called_at k) ++ calls_after n (suc k)

  -- ---- one token

  -- the range and the calls of the function whose `{` token k is, by its name alone
  ranges_here : (k : ℕ) → map (function_range text ts) (function_named k)
      ≡ map (range_to (place_of text ts (close_from ts (suc k))))
      (option_to_list (option_map name_span (named k)))
  ranges_here k = by_cases (named k)
    where
      by_cases : (o : Option Signature) → map (function_range text ts) (function_from ts k o)
          ≡ map (range_to (place_of text ts (close_from ts (suc k))))
          (option_to_list (option_map name_span o))
      by_cases (Some name) = refl
      by_cases None = refl

  calls_here : (k : ℕ) → flat_map (calls_of_function ts) (function_named k)
      ≡ flat_map (open_calls ts k) (option_to_list (option_map name_span (named k)))
  calls_here k = by_cases (named k)
    where
      by_cases : (o : Option Signature) → flat_map (calls_of_function ts) (function_from ts k o)
          ≡ flat_map (open_calls ts k) (option_to_list (option_map name_span o))
      by_cases (Some name) = refl
      by_cases None = refl

  none_here : (k : ℕ) → (is_counted ts k && depth ts k == 0) ≡ false → function_named k ≡ []
  none_here k shut = ap (function_from ts k) (none k shut)

  -- a token that ends all opens nothing, nor does one in braces
  ends_opens_none : (k : ℕ) → closes ts k ≡ true → (is_counted ts k && depth ts k == 0) ≡ false
  ends_opens_none k ends = ap (λ b. (b && not (follows_linkage ts k)) && depth ts k == 0)
      (only_mark (token_at ts k).role 125 123 refl (and_left _ _ ends))

  deep_opens_none : (k : ℕ) → (depth ts k == 0) ≡ false
      → (is_counted ts k && depth ts k == 0) ≡ false
  deep_opens_none k deep =
      ap (λ b. is_counted ts k && b) deep ∙ and-false (is_counted ts k)

  body_outside : (k : ℕ) → (depth ts k == 0) ≡ true
      → body_at (suc k) ≡ option_map name_span (named k)
  unfolding body_at
  body_outside k flat = ap (λ b. if b then option_map name_span (named k)
      else (if depth ts (suc k) == 0 then None else body_at k)) flat

  body_after_end : (k : ℕ) → closes ts k ≡ true → body_at (suc k) ≡ None
  unfolding body_at
  body_after_end k ends =
      let after : (depth ts (suc k) == 0) ≡ true = and_right _ _ ends in
      (λ i. if depth ts k == 0 then option_map name_span (none k (ends_opens_none k ends) i)
      else (if after i then None else body_at k))
      ∙ either (depth ts k == 0) None

  deep_after : (k : ℕ) → closes ts k ≡ false → (depth ts k == 0) ≡ false → 0 < depth ts (suc k)
  unfolding depth
  deep_after k goes_on deep =
      stays_deep (is_counted ts k) (is_mark 125 (token_at ts k).role) (token_at ts k).starts_line
      (depth ts k) (positive (depth ts k) deep) goes_on
    where
      positive : (n : ℕ) → (n == 0) ≡ false → 0 < n
      positive zero e = absurd (true≢false e)
      positive (suc n) e = omega arith

  body_inside : (k : ℕ) → closes ts k ≡ false → (depth ts k == 0) ≡ false
      → body_at (suc k) ≡ body_at k
  unfolding body_at
  body_inside k goes_on deep =
      let after : (depth ts (suc k) == 0) ≡ false =
      not_zero (depth ts (suc k)) (deep_after k goes_on deep) in
      λ i. if deep i then option_map name_span (named k)
      else (if after i then None else body_at k)
    where
      not_zero : (n : ℕ) → 0 < n → (n == 0) ≡ false
      not_zero n some = false_from_ne_true (n == 0)
          (λ e. let none : n ≡ 0 = eqb-true n 0 e in absurd (omega arith))

  -- a token at depth 0 after which the depth is 0 opens nothing
  flat_opens_none : (k : ℕ) → (depth ts (suc k) == 0) ≡ true
      → (is_counted ts k && depth ts k == 0) ≡ false
  unfolding depth
  flat_opens_none k flat = by_count (is_counted ts k) flat
    where
      by_count : (c : Bool) → (depth_after c (token_at ts k) (depth ts k) == 0) ≡ true
          → (c && depth ts k == 0) ≡ false
      by_count true is =
          let past : depth ts k + 1 ≡ 0 = eqb-true (depth ts k + 1) 0 is in absurd (omega arith)
      by_count false is = refl

  -- no body is open at depth 0
  no_body : (k : ℕ) → (depth ts k == 0) ≡ true → body_at k ≡ None
  unfolding body_at
  no_body zero flat = refl
  no_body (suc k) flat =
      (λ i. if depth ts k == 0 then option_map name_span (none k (flat_opens_none k flat) i)
      else (if flat i then None else body_at k))
      ∙ either (depth ts k == 0) None

  -- ---- ranges

  -- the ranges that are open, by the index of the `}` that ends them
  abbrev open_range : ℕ → Option Span → List Range
  open_range j o = map (range_to (place_of text ts j)) (option_to_list o)

  -- the range that a token ends and what is still open are the range that was open and what opens
  -- here
  range_step : (k : ℕ) → k < length ts
      → option_to_list (closed_at k) ++ open_range (close_from ts (suc k)) (body_at (suc k))
      ≡ open_range (close_from ts k) (body_at k) ++ map (function_range text ts) (function_named k)
  range_step k within =
      ⊎_elim ends
      (λ goes_on. ⊎_elim (outside goes_on) (inside goes_on) (cases_Bool (depth ts k == 0)))
      (cases_Bool (closes ts k))
    where
      end : ℕ
      end = (token_at ts k).span.end

      -- what token k ends, if it ends all or none
      closing : Bool → List Range
      closing b = option_to_list (if b then option_map (range_to end) (body_at k) else None)

      one : (o : Option Span)
          → option_to_list (option_map (range_to end) o) ≡ map (range_to end) (option_to_list o)
      one None = refl
      one (Some name) = refl

      ends : closes ts k ≡ true
          → option_to_list (closed_at k) ++ open_range (close_from ts (suc k)) (body_at (suc k))
          ≡ open_range (close_from ts k) (body_at k)
          ++ map (function_range text ts) (function_named k)
      ends is =
          let here_ends : close_from ts k ≡ k =
          close_step ts k within ∙ ap (λ b. if b then k else close_from ts (suc k)) is in
          let place : place_of text ts k ≡ end =
          ap (λ b. if b then end else length text) (lt-ltb k (length ts) within) in
          (λ i. closing (is i) ++ open_range (close_from ts (suc k)) (body_after_end k is i))
          ∙ append-nil _
          ∙ one (body_at k)
          ∙ ap (λ e. map (range_to e) (option_to_list (body_at k)))
          (sym (ap (place_of text ts) here_ends ∙ place))
          ∙ sym (append-nil _)
          ∙ ap (λ fs. open_range (close_from ts k) (body_at k) ++ map (function_range text ts) fs)
          (sym (none_here k (ends_opens_none k is)))

      outside : closes ts k ≡ false → (depth ts k == 0) ≡ true
          → option_to_list (closed_at k) ++ open_range (close_from ts (suc k)) (body_at (suc k))
          ≡ open_range (close_from ts k) (body_at k)
          ++ map (function_range text ts) (function_named k)
      outside goes_on flat =
          (λ i. closing (goes_on i) ++ open_range (close_from ts (suc k)) (body_outside k flat i))
          ∙ sym (ranges_here k)
          ∙ ap (λ o. open_range (close_from ts k) o
          ++ map (function_range text ts) (function_named k)) (sym (no_body k flat))

      inside : closes ts k ≡ false → (depth ts k == 0) ≡ false
          → option_to_list (closed_at k) ++ open_range (close_from ts (suc k)) (body_at (suc k))
          ≡ open_range (close_from ts k) (body_at k)
          ++ map (function_range text ts) (function_named k)
      inside goes_on deep =
          let later : close_from ts k ≡ close_from ts (suc k) =
          close_step ts k within ∙ ap (λ b. if b then k else close_from ts (suc k)) goes_on in
          (λ i. closing (goes_on i) ++ open_range (sym later i) (body_inside k goes_on deep i))
          ∙ sym (append-nil _)
          ∙ ap (λ fs. open_range (close_from ts k) (body_at k) ++ map (function_range text ts) fs)
          (sym (none_here k (deep_opens_none k deep)))

  -- after the last token, what is open ends with the text
  range_end : (k : ℕ) → length ts ≤ k
      → option_to_list (option_map (range_to (length text)) (body_at k))
      ≡ open_range (close_from ts k) (body_at k)
  range_end k past =
      let place : place_of text ts (close_from ts k) ≡ length text =
      ap (place_of text ts) (close_end ts k past)
      ∙ ap (λ b. if b then (token_at ts (length ts)).span.end else length text)
      (false_from_ne_true (nat_lt (length ts) (length ts))
      (λ e. let below : length ts < length ts = ltb-true (length ts) (length ts) e in
      absurd (omega arith))) in
      one (body_at k) ∙ ap (λ e. map (range_to e) (option_to_list (body_at k))) (sym place)
    where
      one : (o : Option Span) → option_to_list (option_map (range_to (length text)) o)
          ≡ map (range_to (length text)) (option_to_list o)
      one None = refl
      one (Some name) = refl

  -- from token k on
  ranges_rest : (n k : ℕ) → k + n ≡ length ts
      → ranges_after n k ≡ open_range (close_from ts k) (body_at k)
      ++ map (function_range text ts) (flat_map function_named (range_with_len k n))
  unfolding ranges_after
  ranges_rest zero k end = range_end k (omega arith) ∙ sym (append-nil _)
  ranges_rest (suc n) k end =
      let within : k < length ts = omega arith in
      let later = flat_map function_named (range_with_len (suc k) n) in
      let open_ = open_range (close_from ts k) (body_at k) in
      ap (λ l. option_to_list (closed_at k) ++ l) (ranges_rest n (suc k) (omega arith))
      ∙ sym (append_assoc (option_to_list (closed_at k)) _ _)
      ∙ ap (λ l. l ++ map (function_range text ts) later) (range_step k within)
      ∙ append_assoc open_ _ _
      ∙ ap (λ l. open_ ++ l) (sym (map-append (function_range text ts) (function_named k) later))
      ∙ ap (λ j. open_ ++ map (function_range text ts)
      (function_named k ++ flat_map function_named (range_with_len j n))) (sym (add-one k))

  -- all of the code
  pub ranges_whole : ranges_after (length ts) 0
      ≡ map (function_range text ts) (flat_map function_named (range_with_len 0 (length ts)))
  unfolding body_at
  ranges_whole = ranges_rest (length ts) 0 (zero-add (length ts))

  -- ---- calls

  nothing_pending : (k : ℕ) → pending ts k None ≡ []
  nothing_pending zero = refl
  nothing_pending (suc k) = refl

  -- the call that a token tells and those still to come are those of the open body and of the
  -- function that opens here
  call_step : (k : ℕ) → k < length ts
      → option_to_list (called_at k) ++ pending ts (suc k) (body_at (suc k))
      ≡ pending ts k (body_at k) ++ flat_map (calls_of_function ts) (function_named k)
  call_step k within = ⊎_elim flat_case (deep_case k within) (cases_Bool (depth ts k == 0))
    where
      flat_case : (depth ts k == 0) ≡ true
          → option_to_list (called_at k) ++ pending ts (suc k) (body_at (suc k))
          ≡ pending ts k (body_at k) ++ flat_map (calls_of_function ts) (function_named k)
      flat_case flat =
          (λ i. option_to_list (call_before (no_body k flat i) (token_before ts k) (token_at ts k))
          ++ flat_map (open_calls ts k) (option_to_list (body_outside k flat i)))
          ∙ sym (calls_here k)
          ∙ ap (λ c. c ++ flat_map (calls_of_function ts) (function_named k))
          (sym (ap (pending ts k) (no_body k flat) ∙ nothing_pending k))

      deep_case : (k : ℕ) → k < length ts → (depth ts k == 0) ≡ false
          → option_to_list (called_at k) ++ pending ts (suc k) (body_at (suc k))
          ≡ pending ts k (body_at k) ++ flat_map (calls_of_function ts) (function_named k)
      deep_case zero within deep =
          absurd (true≢false (sym (ap (λ d. d == 0) (depth_zero ts)) ∙ deep))
      deep_case (suc j) within deep =
          ⊎_elim
          (λ ends.
          (λ i. option_to_list (called_at (suc j))
          ++ flat_map (open_calls ts (suc j)) (option_to_list (body_after_end (suc j) ends i)))
          ∙ append-nil _
          ∙ told_at_end (body_at (suc j)) ends
          ∙ sym (append-nil _)
          ∙ ap (λ fs. pending ts (suc j) (body_at (suc j)) ++ flat_map (calls_of_function ts) fs)
          (sym (none_here (suc j) (deep_opens_none (suc j) deep))))
          (λ goes_on.
          (λ i. option_to_list (called_at (suc j))
          ++ flat_map (open_calls ts (suc j)) (option_to_list (body_inside (suc j) goes_on deep i)))
          ∙ told_inside (body_at (suc j)) goes_on
          ∙ sym (append-nil _)
          ∙ ap (λ fs. pending ts (suc j) (body_at (suc j)) ++ flat_map (calls_of_function ts) fs)
          (sym (none_here (suc j) (deep_opens_none (suc j) deep))))
          (cases_Bool (closes ts (suc j)))
        where
          told_at_end : (o : Option Span) → closes ts (suc j) ≡ true
              → option_to_list (call_before o (token_before ts (suc j)) (token_at ts (suc j)))
              ≡ pending ts (suc j) o
          told_at_end None ends = refl
          told_at_end (Some caller) ends =
              let shut : is_mark 40 (token_at ts (suc j)).role ≡ false =
              only_mark (token_at ts (suc j)).role 125 40 refl (and_left _ _ ends) in
              call_told ts j caller
              ∙ no_call_before ts j caller shut
              ∙ sym (append-nil _ ∙ open_end ts j caller within ends)

          told_inside : (o : Option Span) → closes ts (suc j) ≡ false
              → option_to_list (call_before o (token_before ts (suc j)) (token_at ts (suc j)))
              ++ flat_map (open_calls ts (suc j)) (option_to_list o) ≡ pending ts (suc j) o
          told_inside None goes_on = refl
          told_inside (Some caller) goes_on =
              ap (λ c. c ++ (open_calls ts (suc j) caller ++ [])) (call_told ts j caller)
              ∙ ap (λ c. call_at ts caller j ++ c) (append-nil _)
              ∙ sym (append-nil _ ∙ open_step ts j caller within goes_on)

  call_end : (k : ℕ) (o : Option Span) → length ts ≤ k → pending ts k o ≡ []
  call_end zero o past = refl
  call_end (suc j) None past = refl
  call_end (suc j) (Some caller) past = append-nil _ ∙ open_past ts j caller past

  -- from token k on
  calls_rest : (n k : ℕ) → k + n ≡ length ts
      → calls_after n k ≡ pending ts k (body_at k)
      ++ flat_map (calls_of_function ts) (flat_map function_named (range_with_len k n))
  unfolding calls_after
  calls_rest zero k end = sym (append-nil _ ∙ call_end k (body_at k) (omega arith))
  calls_rest (suc n) k end =
      let within : k < length ts = omega arith in
      let later = flat_map function_named (range_with_len (suc k) n) in
      let open_ = pending ts k (body_at k) in
      ap (λ l. option_to_list (called_at k) ++ l) (calls_rest n (suc k) (omega arith))
      ∙ sym (append_assoc (option_to_list (called_at k)) _ _)
      ∙ ap (λ l. l ++ flat_map (calls_of_function ts) later) (call_step k within)
      ∙ append_assoc open_ _ _
      ∙ ap (λ l. open_ ++ l) (sym (flat_map-append (calls_of_function ts) (function_named k) later))
      ∙ ap (λ j. open_ ++ flat_map (calls_of_function ts)
      (function_named k ++ flat_map function_named (range_with_len j n))) (sym (add-one k))

  -- all of the code
  pub calls_whole : calls_after (length ts) 0
      ≡ flat_map (calls_of_function ts) (flat_map function_named (range_with_len 0 (length ts)))
  calls_whole = calls_rest (length ts) 0 (zero-add (length ts))
