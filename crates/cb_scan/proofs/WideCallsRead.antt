-- The calls in the bodies of functions are found as the tokens of the code are read.
use Rattle.std.proofs.Common.{◌≡◌, ◌∙◌, ℕ, Bool, true, false, List, [], ◌∷◌, ◌++◌, Option}
use Rattle.std.proofs.Common.{None, Some, refl, sym, ap, subst, arith, drop, length, ⊎_elim}
use Rattle.std.proofs.lemmas.Bool.{cases_Bool, eqb-true}
use Rattle.std.specs.Prelude.{◌&&◌, ◌==◌, if◌then◌else◌}
use Rattle.std.specs.List.{AllByRecursion}
use Rattle.std.specs.Option.{is_none, option_map, option_to_list}
use Rattle.cb_scan.specs.declared.facts.Call.{Call}
use Rattle.cb_scan.specs.declared.facts.Def.{Def}
use Rattle.cb_scan.specs.declared.lex.piece.Span.{Span}
use Rattle.cb_scan.specs.declared.lex.token.Token.{Token}
use Rattle.cb_scan.specs.lex.Tokens.{is_mark, is_name_token}
use Rattle.cb_scan.specs.Bytes.{open_paren}
use Rattle.cb_scan.specs.declared.rules.wide.machine.WideMachine.{WideMachine}
use Rattle.cb_scan.specs.declared.rules.wide.opening.Opening.{Opening}
use Rattle.cb_scan.specs.declared.rules.wide.reader.Reader.{Reader}
use Rattle.cb_scan.specs.declared.rules.wide.reader.TheConstants.{FULL}
use Rattle.cb_scan.specs.declared.rules.wide.token.WideToken.{WideToken}
use Rattle.cb_scan.specs.rules.Depth.{depth_after}
use Rattle.cb_scan.specs.rules.Uses.{call_of, calls_in}
use Rattle.cb_scan.specs.rules.wide.Attributes.{ends_attribute, without_attributes}
use Rattle.cb_scan.specs.rules.wide.Bodies.{Body}
use Rattle.cb_scan.specs.rules.wide.Functions.{wide_functions}
use Rattle.cb_scan.specs.rules.wide.Levels.{wide_tokens}
use Rattle.cb_scan.specs.steps.Functions.{before_after, call_before, callable}
use Rattle.cb_scan.specs.steps.wide.Ahead.{up_to_mark}
use Rattle.cb_scan.specs.steps.wide.Contents.{are_in_block}
use Rattle.cb_scan.specs.steps.wide.Declarations as declarations
use Rattle.cb_scan.specs.steps.wide.Functions as functions
use Rattle.cb_scan.specs.steps.wide.Functions.{found, function_here, headed, opened, opened_from}
use Rattle.cb_scan.specs.steps.wide.Functions.{start}
use Rattle.cb_scan.specs.steps.wide.Heads.{head_from}
use Rattle.cb_scan.specs.steps.wide.Lists.{Lists}
use Rattle.cb_scan.specs.steps.wide.Openings.{next_opening}
use Rattle.cb_scan.specs.steps.wide.Pass.{Taken, function_found, pass_start}
use Rattle.cb_scan.specs.steps.wide.Pass.{take_all, take_first}
use Rattle.cb_scan.specs.steps.wide.Ranges as inside
use Rattle.cb_scan.specs.steps.wide.Ranges.{Inside, calls_from, later_opened, next_opened, outside}
use Rattle.cb_scan.specs.steps.wide.Reading.{first_taken, held, item_of, passed, read_on}
use Rattle.cb_scan.specs.steps.wide.Reading.{reader_after, reader_start, taken_after, taken_at_end}
use Rattle.cb_scan.specs.steps.wide.Reading.{the_taken, turned}
use Rattle.cb_scan.specs.steps.wide.Sights.{opening_along}
use Rattle.cb_scan.specs.steps.wide.Tokens.{tokens_from}
use Rattle.cb_scan.proofs.Bodies.{def_name}
use Rattle.cb_scan.proofs.WideBareRanges.{Fine, body_kept_inside, flat_after, given_here}
use Rattle.cb_scan.proofs.WideBareRanges.{later_here, same_body}
use Rattle.cb_scan.proofs.WideBodies.{Opens}
use Rattle.cb_scan.proofs.WideFive.{machine_five}
use Rattle.cb_scan.proofs.WideHeld.{emptied_is, held_before}
use Rattle.cb_scan.proofs.WideInduction.{IsSame, coming, holds_at_start, later}
use Rattle.cb_scan.proofs.WidePass.{block_is}
use Rattle.cb_scan.proofs.WideRanges.{calls_are}
use Rattle.cb_scan.proofs.WideSegments.{IsInner, after, after_depth, along, depth_inner}
use Rattle.cb_scan.proofs.WideSegments.{depth_next_is, headed_all, machine_seen}
use Rattle.cb_scan.proofs.WideSegments.{next_inner, opens_nothing}
use Rattle.cb_scan.proofs.WideTaken.{left_of, taken_of}
use Rattle.cb_scan.proofs.WideTokens.{tokens_are}

-- the calls that are told by the tokens to come, where this one is directly before
unfoldable pub calls_read : List ℕ → Reader → Taken → Option Token → List Token → List Call
calls_read text r t last [] = []
calls_read text r t last (token ∷ ts) =
    option_to_list (call_before t.pass.body last token)
    ++ calls_read text (reader_after text r t token) (taken_after text r t token) (Some token) ts

-- what is no name is not called
callable_call : (body : Option Span) (x t : Token)
    → call_before body (callable x) t ≡ call_before body (Some x) t
callable_call None x t = refl
callable_call (Some caller) x t = by_name (is_name_token x.role) refl
  where
    by_name : (b : Bool) → is_name_token x.role ≡ b
        → call_before (Some caller) (if b then Some x else None) t
        ≡ call_before (Some caller) (Some x) t
    by_name true e = refl
    by_name false e =
        λ i. if sym e i && is_mark open_paren t.role then Some (call_of caller x) else None

pub callable_read : (text : List ℕ) (r : Reader) (t : Taken) (x : Token) (ts : List Token)
    → calls_read text r t (callable x) ts ≡ calls_read text r t (Some x) ts
unfolding calls_read
callable_read text r t x [] = refl
callable_read text r t x (token ∷ ts) =
    ap (λ c. option_to_list c
    ++ calls_read text (reader_after text r t token) (taken_after text r t token) (Some token) ts)
    (callable_call t.pass.body x token)

-- what is known of the body that the next token is in
abbrev inside_of : Taken → Option Token → Inside
inside_of t last = record {
  depth = t.pass.machine.depth;
  last = last;
  body = t.pass.body;
}

-- ---- tokens of a segment

-- no body is open at depth 0
abbrev IsFine : Taken → Type 0
IsFine t = Fine t.pass.body t.pass.machine.depth

module _ (t : Taken) (xs : List WideToken) (x : WideToken) (inner : IsInner x) where
  same_depth : (take_first t xs x).pass.machine.depth ≡ t.pass.machine.depth
  same_depth =
      depth_next_is t.pass.machine xs x ∙ depth_inner t.pass.machine.depth x inner

  body_kept : IsFine t → (take_first t xs x).pass.body ≡ t.pass.body
  body_kept fine =
      ⊎_elim
      (λ is.
      (λ j. if is j then option_map def_name
      (if (inner.uncounted j && is_none t.pass.opening) && t.pass.machine.depth == 0
      then function_here t.pass.machine else None)
      else (if functions.next_depth t.pass.machine x == 0 then None else t.pass.body))
      ∙ sym (fine is))
      (λ isnt.
      (λ j. if isnt j then option_map def_name (function_found t.pass x)
      else (if (ap (λ d. d == 0) (depth_inner t.pass.machine.depth x inner) ∙ isnt) j then None
      else t.pass.body)))
      (cases_Bool (t.pass.machine.depth == 0))

  fine_kept : IsFine t → IsFine (take_first t xs x)
  fine_kept fine = λ flat. body_kept fine ∙ fine (ap (λ d. d == 0) (sym same_depth) ∙ flat)

-- all of them
body_all : (t : Taken) (s : List WideToken) → AllByRecursion IsInner s → IsFine t
    → (take_all t s).pass.body ≡ t.pass.body
unfolding take_all
body_all t [] all fine = refl
body_all t (x ∷ s) all fine =
    body_all (take_first t (x ∷ s) x) s all.1 (fine_kept t (x ∷ s) x all.0 fine)
    ∙ body_kept t (x ∷ s) x all.0 fine

machine_all : (t : Taken) (s : List WideToken) → AllByRecursion IsInner s
    → (take_all t s).pass.machine ≡ after t.pass.machine s
unfolding take_all head_from
machine_all t [] all = sym (elim (t.pass.machine.depth == 0) as
    (λ b. (if b then headed_all t.pass.machine [] else t.pass.machine) ≡ t.pass.machine)
    [ true ↦ refl | false ↦ refl ])
machine_all t (x ∷ s) all =
    let m = t.pass.machine in
    let xs = x ∷ s in
    machine_all (take_first t xs x) s all.1
    ∙ ap (λ n. after n s) (next_inner m xs x all.0)
    ∙ ⊎_elim
    (λ is.
    ap (λ b. after (if b then headed m xs x else m) s) is
    ∙ ap (λ b. if b then headed_all (headed m xs x) s else headed m xs x) is
    ∙ sym (ap (λ b. if b then headed_all m xs else m) is))
    (λ isnt.
    ap (λ b. after (if b then headed m xs x else m) s) isnt
    ∙ ap (λ b. if b then headed_all m s else m) isnt
    ∙ sym (ap (λ b. if b then headed_all m xs else m) isnt))
    (cases_Bool (m.depth == 0))

opening_all : (t : Taken) (s : List WideToken)
    → (take_all t s).pass.opening ≡ opening_along t.pass.opening s
unfolding take_all opening_along
opening_all t [] = refl
opening_all t (x ∷ s) = opening_all (take_first t (x ∷ s) x) s

-- ---- by the bodies of the rules

module _ (bs : List Body) where
  opens_after : (o : Option Opening) (s xs : List WideToken) → Opens bs o (s ++ xs)
      → Opens bs (opening_along o s) xs
  unfolding opening_along
  opens_after o [] xs same = same
  opens_after o (x ∷ s) xs same = opens_after (next_opening o x) s xs same.1

  -- a `;` or a brace
  module _ (t : Taken) (s : List WideToken) (q : WideToken) (rest : List WideToken)
      (last : Option Token) (all : AllByRecursion IsInner s) (ends : ends_attribute q.role ≡ true)
      (fine : IsFine t) (same : Opens bs t.pass.opening (s ++ q ∷ rest)) where
    -- the state before it, and after it
    abbrev m : WideMachine
    m = after t.pass.machine s

    abbrev u : Taken
    u = take_all t s

    abbrev v : Taken
    v = take_first u (q ∷ []) q

    -- what it opens, and what those after it open
    abbrev found_here : Option Def
    found_here = found m (declarations.is_block bs q)

    abbrev opened_later : List (Option Def)
    opened_later = opened_from bs (functions.next m (q ∷ rest) q) rest

    abbrev i : Inside
    i = inside_of t last

    alike : i.depth ≡ m.depth
    alike = sym (after_depth t.pass.machine s)

    opened_is : opened_from bs t.pass.machine (s ++ q ∷ rest) ≡ opened bs m q ++ opened_later
    unfolding opened_from
    opened_is = along bs q rest ends t.pass.machine s all

    machine_is : u.pass.machine ≡ m
    machine_is = machine_all t s all

    machine_next : v.pass.machine ≡ functions.next m (q ∷ rest) q
    machine_next =
        ap (λ n. functions.next n (q ∷ []) q) machine_is
        ∙ sym (machine_seen m q rest
        ∙ ap (λ b. functions.next m (q ∷ (if b then [] else up_to_mark rest)) q) ends)

    opens_here : Opens bs u.pass.opening (q ∷ rest)
    opens_here = subst (λ o. Opens bs o (q ∷ rest)) (sym (opening_all t s))
        (opens_after t.pass.opening s (q ∷ rest) same)

    opens_mark : Opens bs v.pass.opening rest
    opens_mark = opens_here.1

    body_mark : v.pass.body ≡ inside.next_body i found_here q
    body_mark =
        (λ j. if (machine_is j).depth == 0
        then option_map def_name
        (found (machine_is j) (block_is bs u.pass.opening q opens_here.0 j))
        else (if functions.next_depth (machine_is j) q == 0 then None
        else body_all t s all fine j))
        ∙ sym (same_body bs i m q opened_later alike)

    inside_mark : inside_of v (Some q.token)
        ≡ inside.next i (next_opened (opened_from bs t.pass.machine (s ++ q ∷ rest))) q
    inside_mark =
        let deep : v.pass.machine.depth ≡ inside.next_depth i q =
        ap (λ (n : WideMachine). n.depth) machine_next
        ∙ depth_next_is m (q ∷ rest) q
        ∙ ap (depth_after q.counted q.token) (sym alike) in
        (λ j. record { depth = deep j; last = Some q.token; body = body_mark j })
        ∙ sym (given_here bs i m q opened_later alike)
        ∙ ap (λ o. inside.next i (next_opened o) q) (sym opened_is)

    opened_mark : opened_from bs v.pass.machine rest
        ≡ later_opened i (opened_from bs t.pass.machine (s ++ q ∷ rest)) q
    opened_mark =
        ap (λ n. opened_from bs n rest) machine_next
        ∙ sym (later_here bs i m q opened_later alike)
        ∙ ap (λ o. later_opened i o q) (sym opened_is)

    fine_mark : IsFine v
    fine_mark = λ flat.
        let deep : (inside.next_depth i q == 0) ≡ true =
        ap (λ d. d == 0) (sym (ap (λ (n : WideMachine). n.depth) machine_next
        ∙ depth_next_is m (q ∷ rest) q
        ∙ ap (depth_after q.counted q.token) (sym alike))) ∙ flat in
        body_mark ∙ flat_after i found_here q deep

  -- any other token
  opened_five : (n : WideMachine) (a b c d e : WideToken) (s rest : List WideToken) → IsInner a
      → opened_from bs (functions.next n (a ∷ b ∷ c ∷ d ∷ e ∷ s) a)
      (b ∷ c ∷ d ∷ e ∷ (s ++ rest))
      ≡ opened_from bs n (a ∷ b ∷ c ∷ d ∷ e ∷ (s ++ rest))
  opened_five n a b c d e s rest inner =
      ap (λ k. opened_from bs k (b ∷ c ∷ d ∷ e ∷ (s ++ rest)))
      (sym (machine_five a b c d e s rest n))
      ∙ sym (opens_nothing bs n a (b ∷ c ∷ d ∷ e ∷ (s ++ rest)) inner tt)

  -- what stays as it is, with what is taken and what is left
  record IsKept (t v : Taken) (bare left rest : List WideToken) : Type 0 where
    depth_is : v.pass.machine.depth ≡ t.pass.machine.depth
    body_is : v.pass.body ≡ t.pass.body
    opened_are : opened_from bs v.pass.machine (left ++ rest)
        ≡ opened_from bs t.pass.machine (bare ++ rest)
    opens : Opens bs v.pass.opening (left ++ rest)

  kept_first : (t : Taken) (bare rest : List WideToken) → length bare ≡ FULL
      → AllByRecursion IsInner bare → IsFine t → Opens bs t.pass.opening (bare ++ rest)
      → IsKept t (first_taken t bare) bare (drop 1 bare) rest
  kept_first t (a ∷ b ∷ c ∷ d ∷ e ∷ s) rest full all fine same =
      let xs = a ∷ b ∷ c ∷ d ∷ e ∷ s in
      record {
        depth_is = same_depth t xs a all.0;
        body_is = body_kept t xs a all.0 fine;
        opened_are = opened_five t.pass.machine a b c d e s rest all.0;
        opens = same.1;
      }
  kept_first t [] rest full all fine same = absurd (omega arith)
  kept_first t (a ∷ []) rest full all fine same = absurd (omega arith)
  kept_first t (a ∷ b ∷ []) rest full all fine same = absurd (omega arith)
  kept_first t (a ∷ b ∷ c ∷ []) rest full all fine same = absurd (omega arith)
  kept_first t (a ∷ b ∷ c ∷ d ∷ []) rest full all fine same = absurd (omega arith)

  kept : (t : Taken) (bare rest : List WideToken) → AllByRecursion IsInner bare → IsFine t
      → Opens bs t.pass.opening (bare ++ rest)
      → IsKept t (taken_of t bare) bare (left_of bare) rest
  kept t bare rest all fine same =
      (elim (length bare == FULL) as (λ b. (length bare == FULL) ≡ b
      → IsKept t (if b then first_taken t bare else t) bare (if b then drop 1 bare else bare)
      rest) [
        | true ↦ λ e. kept_first t bare rest (eqb-true (length bare) FULL e) all fine same
        | false ↦ λ e. record { depth_is = refl; body_is = refl; opened_are = refl; opens = same }
      ]) refl

  -- ---- all tokens

  module _ (text : List ℕ) where
    -- the calls that are read are those of the tokens to come, by what these open
    AreCalls : Reader → Taken → List Token → List WideToken → Type 0
    AreCalls r t ts bare = (last : Option Token) → IsFine t → Opens bs t.pass.opening bare
        → calls_read text r t last ts
        ≡ calls_from (inside_of t last) (opened_from bs t.pass.machine bare) (coming text r ts)

    before_kept : (r : Reader) (t : Taken) (token : Token)
        → (reader_after text r t token).before ≡ before_after r.before token
    before_kept r t token =
        by_tests (are_in_block t.pass.levels) (ends_attribute (item_of text r token).role)
      where
        by_tests : (b e : Bool)
            → (if e then turned b (passed r token)
            else read_on b (passed r token) (item_of text r token)).before
            ≡ before_after r.before token
        by_tests true true = refl
        by_tests false true = refl
        by_tests true false = refl
        by_tests false false =
            ap (λ (z : Reader). z.before)
            (emptied_is (held (passed r token) (item_of text r token)))
            ∙ held_before (passed r token) (item_of text r token)

    -- one token, where the state after it is this
    one : (r : Reader) (t v : Taken) (token : Token) (ts : List Token) (last : Option Token)
        (bare rest : List WideToken) → taken_after text r t token ≡ v
        → AreCalls (reader_after text r t token) (taken_after text r t token) ts rest
        → IsFine v → Opens bs v.pass.opening rest
        → inside_of v (Some token)
        ≡ inside.next (inside_of t last) (next_opened (opened_from bs t.pass.machine bare))
        (item_of text r token)
        → opened_from bs v.pass.machine rest
        ≡ later_opened (inside_of t last) (opened_from bs t.pass.machine bare)
        (item_of text r token)
        → calls_read text r t last (token ∷ ts)
        ≡ calls_from (inside_of t last) (opened_from bs t.pass.machine bare)
        (coming text r (token ∷ ts))
    unfolding calls_read calls_from tokens_from AreCalls
    one r t v token ts last bare rest taken calls fine same inside_is opened_is =
        let here = option_to_list (call_before t.pass.body last token) in
        let fine_here : IsFine (taken_after text r t token) = subst IsFine (sym taken) fine in
        let same_here : Opens bs (taken_after text r t token).pass.opening rest =
        subst (λ (u : Taken). Opens bs u.pass.opening rest) (sym taken) same in
        ap (λ l. here ++ l)
        (calls (Some token) fine_here same_here
        ∙ (λ j. calls_from (inside_of (taken j) (Some token))
        (opened_from bs (taken j).pass.machine rest)
        (tokens_from text (before_kept r t token j) ts))
        ∙ (λ j. calls_from (inside_is j) (opened_is j) (later text r token ts)))

    at_end : (r : Reader) (t : Taken) (s : List WideToken)
        → IsSame (taken_at_end r t) (take_all t s) → AreCalls r t [] s
    unfolding calls_read calls_from tokens_from AreCalls
    at_end r t s same last fine opens = refl

    at_mark : (r : Reader) (t : Taken) (token : Token) (ts : List Token) (s : List WideToken)
        → AllByRecursion IsInner s → ends_attribute (item_of text r token).role ≡ true
        → taken_after text r t token
        ≡ take_first (take_all t s) (item_of text r token ∷ []) (item_of text r token)
        → AreCalls (reader_after text r t token) (taken_after text r t token) ts
        (without_attributes (later text r token ts))
        → AreCalls r t (token ∷ ts)
        (s ++ item_of text r token ∷ without_attributes (later text r token ts))
    unfolding AreCalls
    at_mark r t token ts s all ends taken calls last fine opens =
        let q = item_of text r token in
        let rest = without_attributes (later text r token ts) in
        one r t (take_first (take_all t s) (q ∷ []) q) token ts last (s ++ q ∷ rest) rest taken
        calls (fine_mark t s q rest last all ends fine opens)
        (opens_mark t s q rest last all ends fine opens)
        (inside_mark t s q rest last all ends fine opens)
        (opened_mark t s q rest last all ends fine opens)

    within : (r : Reader) (t : Taken) (token : Token) (ts : List Token)
        (bare rest : List WideToken) → AllByRecursion IsInner bare
        → IsInner (item_of text r token) → taken_after text r t token ≡ taken_of t bare
        → AreCalls (reader_after text r t token) (taken_after text r t token) ts
        (left_of bare ++ rest)
        → AreCalls r t (token ∷ ts) (bare ++ rest)
    unfolding AreCalls
    within r t token ts bare rest all inner taken calls last fine opens =
        let q = item_of text r token in
        let v = taken_of t bare in
        let i = inside_of t last in
        let given = opened_from bs t.pass.machine (bare ++ rest) in
        let same = kept t bare rest all fine opens in
        let deep : v.pass.machine.depth ≡ inside.next_depth i q =
        same.depth_is ∙ sym (depth_inner t.pass.machine.depth q inner) in
        let body : v.pass.body ≡ inside.next_body i (next_opened given) q =
        same.body_is ∙ sym (body_kept_inside bs 0 i (next_opened given) q inner fine) in
        one r t v token ts last (bare ++ rest) (left_of bare ++ rest) taken calls
        (λ flat. same.body_is ∙ fine (ap (λ d. d == 0) (sym same.depth_is) ∙ flat)) same.opens
        (λ j. record { depth = deep j; last = Some token; body = body j })
        (same.opened_are
        ∙ (λ j. if sym inner.uncounted j && i.depth == 0 then drop 1 given else given))

    -- the calls of the code
    pub calls_read_are : (ts : List Token) (l : Lists)
        → Opens bs None (without_attributes (wide_tokens text ts))
        → calls_read text reader_start (the_taken pass_start l) None ts
        ≡ calls_in ts (wide_functions ts (wide_tokens text ts) bs)
    unfolding AreCalls
    calls_read_are ts l opens =
        holds_at_start text AreCalls at_end at_mark within ts l None (λ flat. refl) opens
        ∙ ap (calls_from outside (opened_from bs start (without_attributes (wide_tokens text ts))))
        (tokens_are text ts)
        ∙ calls_are text ts bs
