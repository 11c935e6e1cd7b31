-- The ranges of functions along the tokens without attributes: all braces are among these.
use Rattle.std.proofs.Common.{◌≡◌, ◌∙◌, ℕ, zero, suc, ◌+◌, Bool, true, false, List, [], ◌∷◌, ◌++◌}
use Rattle.std.proofs.Common.{Option, Some, None, refl, sym, ap, arith, length, drop, map, ⊎_elim}
use Rattle.std.proofs.Common.{append_assoc}
use Rattle.std.proofs.lemmas.Bool.{cases_Bool, eqb-true}
use Rattle.std.specs.Prelude.{◌&&◌, ◌==◌, not, if◌then◌else◌}
use Rattle.std.specs.List.{AllByRecursion, range_with_len}
use Rattle.std.specs.Option.{option_map, option_to_list}
use Rattle.cb_scan.specs.declared.facts.Def.{Def}
use Rattle.cb_scan.specs.declared.lex.piece.Span.{Span}
use Rattle.cb_scan.specs.declared.lex.token.Token.{Token}
use Rattle.cb_scan.specs.declared.rules.scope.Range.{Range}
use Rattle.cb_scan.specs.declared.rules.wide.machine.WideMachine.{WideMachine}
use Rattle.cb_scan.specs.declared.rules.wide.token.WideToken.{WideToken}
use Rattle.cb_scan.specs.rules.Depth.{depth_after}
use Rattle.cb_scan.specs.rules.Scope.{function_range}
use Rattle.cb_scan.specs.rules.wide.Attributes.{ends_attribute, without_attributes}
use Rattle.cb_scan.specs.rules.wide.Bodies.{Body, opens_body}
use Rattle.cb_scan.specs.rules.wide.Functions.{wide_functions}
use Rattle.cb_scan.specs.rules.wide.Words.{is_sign}
use Rattle.cb_scan.specs.steps.Functions.{range_to}
use Rattle.cb_scan.specs.steps.wide.Declarations.{is_block}
use Rattle.cb_scan.specs.steps.wide.Functions as functions
use Rattle.cb_scan.specs.steps.wide.Functions.{found, function_here, opened, opened_from, start}
use Rattle.cb_scan.specs.steps.wide.Ranges as inside
use Rattle.cb_scan.specs.steps.wide.Ranges.{Inside, closed, entered, later_opened, next_body}
use Rattle.cb_scan.specs.steps.wide.Ranges.{next_opened, outside, ranges_from}
use Rattle.cb_scan.proofs.Bodies.{def_name, either}
use Rattle.cb_scan.proofs.WideFunctions.{all, is_inner, item}
use Rattle.cb_scan.proofs.WideRanges.{ranges_are}
use Rattle.cb_scan.proofs.WideRuns.{kept_all, run_is}
use Rattle.cb_scan.proofs.WideSegments.{IsInner, after, after_depth, along, depth_inner}
use Rattle.cb_scan.proofs.WideSegments.{depth_next_is, to_end, to_mark}
use Rattle.cb_scan.proofs.WithinLemmas.{all-append}

-- the name of the function whose body the next token is in
abbrev pub body_next : List Body → WideMachine → Option Span → WideToken → Option Span
body_next bs m body x =
    if m.depth == 0 then option_map def_name (found m (is_block bs x))
    else (if functions.next_depth m x == 0 then None else body)

-- the range of the function whose body the token ends
abbrev pub range_here : WideMachine → Option Span → WideToken → Option Range
range_here m body x =
    if is_sign 125 x.role && functions.next_depth m x == 0
    then option_map (range_to x.token.span.end) body else None

-- the ranges of the functions whose bodies end from a state on, where the text ends at a place
unfoldable pub ranges_along : List Body → ℕ → Option Span → WideMachine → List WideToken
    → List Range
ranges_along bs end body m [] = option_to_list (option_map (range_to end) body)
ranges_along bs end body m (x ∷ xs) =
    option_to_list (range_here m body x)
    ++ ranges_along bs end (body_next bs m body x) (functions.next m (x ∷ xs) x) xs

-- ---- what a token opens is what is next

module _ (bs : List Body) (i : Inside) (m : WideMachine) (x : WideToken)
    (later : List (Option Def)) (alike : i.depth ≡ m.depth) where
  pub given_here : inside.next i (next_opened (opened bs m x ++ later)) x
      ≡ inside.next i (found m (is_block bs x)) x
  given_here =
      let by : Option Span → Inside = λ o.
      record { depth = inside.next_depth i x; last = Some x.token; body = o } in
      let deeper : Option Span = if inside.next_depth i x == 0 then None else i.body in
      let f = found m (is_block bs x) in
      ap by
      ((λ j. if alike j == 0 then entered (next_opened (opened bs m x ++ later)) x else deeper)
      ∙ by_tests x.counted (m.depth == 0) deeper
      ∙ (λ j. if sym alike j == 0 then entered f x else deeper))
    where
      by_tests : (c flat : Bool) (o : Option Span)
          → (if flat then (if c then option_map def_name (next_opened
          ((if c && flat then found m (is_block bs x) ∷ [] else []) ++ later)) else None) else o)
          ≡ (if flat then (if c then option_map def_name (found m (is_block bs x)) else None)
          else o)
      by_tests true true o = refl
      by_tests false true o = refl
      by_tests c false o = refl

  pub later_here : later_opened i (opened bs m x ++ later) x ≡ later
  later_here =
      (λ j. if x.counted && alike j == 0 then drop 1 (opened bs m x ++ later)
      else opened bs m x ++ later)
      ∙ by_test (x.counted && m.depth == 0)
    where
      by_test : (b : Bool)
          → (if b then drop 1 ((if b then found m (is_block bs x) ∷ [] else []) ++ later)
          else (if b then found m (is_block bs x) ∷ [] else []) ++ later) ≡ later
      by_test true = refl
      by_test false = refl

  -- and the name of the body is the same
  pub same_body : next_body i (found m (is_block bs x)) x ≡ body_next bs m i.body x
  same_body =
      (λ j. if alike j == 0 then entered (found m (is_block bs x)) x
      else (if depth_after x.counted x.token (alike j) == 0 then None else i.body))
      ∙ by_tests x.counted (m.depth == 0) (not (opens_body bs x.token.span.start))
    where
      by_tests : (c flat b : Bool)
          → (if flat then (if c
          then option_map def_name (if (c && b) && flat then function_here m else None) else None)
          else (if functions.next_depth m x == 0 then None else i.body))
          ≡ (if flat then option_map def_name (if (c && b) && flat then function_here m else None)
          else (if functions.next_depth m x == 0 then None else i.body))
      by_tests true true b = refl
      by_tests false true b = refl
      by_tests c false b = refl

-- ---- no body is open at depth 0

pub flat_after : (i : Inside) (f : Option Def) (x : WideToken)
    → (inside.next_depth i x == 0) ≡ true → next_body i f x ≡ None
flat_after i f x flat = by_count x.counted flat
  where
    by_count : (c : Bool) → (depth_after c x.token i.depth == 0) ≡ true
        → (if i.depth == 0 then (if c then option_map def_name f else None)
        else (if depth_after c x.token i.depth == 0 then None else i.body)) ≡ None
    by_count true is =
        let past : i.depth + 1 ≡ 0 = eqb-true (i.depth + 1) 0 is in absurd (omega arith)
    by_count false is =
        (λ j. if i.depth == 0 then None else (if is j then None else i.body))
        ∙ either (i.depth == 0) None

-- ---- a token of a segment

-- a body that may be open at a depth
abbrev pub Fine : Option Span → ℕ → Type 0
Fine body d = (d == 0) ≡ true → body ≡ None

-- a token that counts, opens or closes only if it is a `;` or a brace
abbrev Known : WideToken → Type 0
Known x = ends_attribute x.role ≡ false → IsInner x

module _ (bs : List Body) (end : ℕ) where
  body_kept : (m : WideMachine) (body : Option Span) (x : WideToken) → IsInner x
      → Fine body m.depth → body_next bs m body x ≡ body
  body_kept m body x inner fine =
      ⊎_elim
      (λ is.
      (λ j. if is j then option_map def_name
      (if (inner.uncounted j && not (opens_body bs x.token.span.start)) && m.depth == 0
      then function_here m else None)
      else (if functions.next_depth m x == 0 then None else body))
      ∙ sym (fine is))
      (λ isnt.
      (λ j. if isnt j then option_map def_name (found m (is_block bs x))
      else (if (ap (λ d. d == 0) (depth_inner m.depth x inner) ∙ isnt) j then None else body)))
      (cases_Bool (m.depth == 0))

  step : (body : Option Span) (m : WideMachine) (x : WideToken) (xs : List WideToken) → IsInner x
      → Fine body m.depth
      → ranges_along bs end body m (x ∷ xs)
      ≡ ranges_along bs end body (functions.next m (x ∷ xs) x) xs
  unfolding ranges_along
  step body m x xs inner fine =
      (λ j. option_to_list (if inner.no_close j && functions.next_depth m x == 0
      then option_map (range_to x.token.span.end) body else None)
      ++ ranges_along bs end (body_kept m body x inner fine j) (functions.next m (x ∷ xs) x) xs)

  at_end : (body : Option Span) (m : WideMachine)
      → ranges_along bs end body m [] ≡ option_to_list (option_map (range_to end) body)
  unfolding ranges_along
  at_end body m = refl

  -- ---- all tokens

  pub body_kept_inside : (i : Inside) (f : Option Def) (x : WideToken) → IsInner x
      → Fine i.body i.depth → next_body i f x ≡ i.body
  body_kept_inside i f x inner fine =
      ⊎_elim
      (λ is.
      (λ j. if is j then (if inner.uncounted j then option_map def_name f else None)
      else (if inside.next_depth i x == 0 then None else i.body))
      ∙ sym (fine is))
      (λ isnt.
      (λ j. if isnt j then entered f x
      else (if (ap (λ d. d == 0) (depth_inner i.depth x inner) ∙ isnt) j then None else i.body)))
      (cases_Bool (i.depth == 0))

  -- along all tokens and along those without attributes the same ranges end, where the tokens of a
  -- segment have been read
  alike_from : (raw : List WideToken) (i : Inside) (m : WideMachine) (s : List WideToken)
      → i.depth ≡ m.depth → Fine i.body i.depth → AllByRecursion IsInner s
      → AllByRecursion Known raw
      → ranges_from end i (opened_from bs m (without_attributes (s ++ raw))) raw
      ≡ ranges_along bs end i.body m (without_attributes (s ++ raw))
  unfolding ranges_from opened_from ranges_along
  alike_from [] i m s alike fine inner known =
      let fine_here : Fine i.body m.depth = λ is. fine (ap (λ d. d == 0) alike ∙ is) in
      sym (to_end (λ n. ranges_along bs end i.body n) (Fine i.body)
      (option_to_list (option_map (range_to end) i.body)) (at_end i.body) (step i.body) m
      (without_attributes (s ++ []))
      (kept_all IsInner 0 (s ++ []) (all-append IsInner s [] inner tt)) fine_here)
  alike_from (x ∷ raw) i m s alike fine inner known =
      let fine_here : Fine i.body m.depth = λ is. fine (ap (λ d. d == 0) alike ∙ is) in
      let bare = without_attributes s in
      let bare_inner : AllByRecursion IsInner bare = kept_all IsInner 0 s inner in
      ⊎_elim
      (λ ends.
      let b = after m bare in
      let rest = without_attributes raw in
      let n = functions.next b (x ∷ rest) x in
      let f = found b (is_block bs x) in
      let same : i.depth ≡ b.depth = alike ∙ sym (after_depth m bare) in
      let later = opened_from bs n rest in
      let on = inside.next i f x in
      let deep_alike : on.depth ≡ n.depth =
      ap (depth_after x.counted x.token) same ∙ sym (depth_next_is b (x ∷ rest) x) in
      (λ j. ranges_from end i
      ((ap (opened_from bs m) (run_is x raw ends s) ∙ along bs x rest ends m bare bare_inner) j)
      (x ∷ raw))
      ∙ (λ j. option_to_list (closed i x)
      ++ ranges_from end (given_here bs i b x later same j) (later_here bs i b x later same j) raw)
      ∙ ap (λ l. option_to_list (closed i x) ++ l)
      (alike_from raw on n [] deep_alike (λ is. flat_after i f x is) tt known.1)
      ∙ (λ j. option_to_list (if is_sign 125 x.role && depth_after x.counted x.token (same j) == 0
      then option_map (range_to x.token.span.end) i.body else None)
      ++ ranges_along bs end (same_body bs i b x later same j) n rest)
      ∙ sym (ap (ranges_along bs end i.body m) (run_is x raw ends s)
      ∙ to_mark (λ n. ranges_along bs end i.body n) (Fine i.body)
      (option_to_list (option_map (range_to end) i.body)) (at_end i.body) (step i.body) x rest ends
      m bare bare_inner fine_here))
      (λ goes_on.
      let is : IsInner x = known.0 goes_on in
      let s_next = s ++ x ∷ [] in
      let given = opened_from bs m (without_attributes (s ++ x ∷ raw)) in
      let on = inside.next i (next_opened given) x in
      let deep_kept : on.depth ≡ i.depth = depth_inner i.depth x is in
      let kept : on.body ≡ i.body = body_kept_inside i (next_opened given) x is fine in
      (λ j. option_to_list (if is.no_close j && inside.next_depth i x == 0
      then option_map (range_to x.token.span.end) i.body else None)
      ++ ranges_from end on
      (if is.uncounted j && i.depth == 0 then drop 1 given else given) raw)
      ∙ ap (λ l. ranges_from end on (opened_from bs m (without_attributes l)) raw)
      (sym (append_assoc s (x ∷ []) raw))
      ∙ alike_from raw on m s_next (deep_kept ∙ alike)
      (λ flat. kept ∙ fine (ap (λ d. d == 0) (sym deep_kept) ∙ flat))
      (all-append IsInner s (x ∷ []) inner (is, tt)) known.1
      ∙ (λ j. ranges_along bs end (kept j) m
      (without_attributes (append_assoc s (x ∷ []) raw j))))
      (cases_Bool (ends_attribute x.role))

-- ---- the code

module _ (text : List ℕ) (ts : List Token) (bs : List Body) where
  known_all : (n k : ℕ) → AllByRecursion Known (map (item text ts bs) (range_with_len k n))
  known_all zero k = tt
  known_all (suc n) k = (is_inner text ts bs k, known_all n (k + 1))

  -- the pass over the tokens without attributes
  pub bare_ranges_are :
      ranges_along bs (length text) None start (without_attributes (all text ts bs))
      ≡ map (function_range text ts) (wide_functions ts (all text ts bs) bs)
  bare_ranges_are =
      sym (alike_from bs (length text) (all text ts bs) outside start [] refl (λ flat. refl) tt
      (known_all (length ts) 0))
      ∙ ranges_are text ts bs
