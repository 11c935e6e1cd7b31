-- A brace of a block in a block changes what is open, and gives nothing.
use Rattle.std.proofs.Common.{◌≡◌, ◌∙◌, ◌≤◌, ℕ, ◌+◌, ◌-◌, Bool, true, false, List, [], ◌∷◌, ◌++◌}
use Rattle.std.proofs.Common.{Option, None, Some, refl, sym, ap, arith, drop}
use Rattle.std.proofs.lemmas.Bool.{and_right, eqb-true, false_from_ne_true, false≢true}
use Rattle.std.proofs.lemmas.List.{append-nil}
use Rattle.std.specs.Prelude.{◌&&◌, ◌||◌, ◌==◌, not, if◌then◌else◌}
use Rattle.std.specs.List.{flat_map}
use Rattle.std.specs.Option.{is_none, option_map, option_to_list}
use Rattle.cb_scan.specs.declared.facts.Def.{Def}
use Rattle.cb_scan.specs.declared.lex.token.Token.{Token}
use Rattle.cb_scan.specs.declared.rules.wide.level.Level.{Level}
use Rattle.cb_scan.specs.declared.rules.wide.level.Level.TheVariants.{Block}
use Rattle.cb_scan.specs.declared.rules.wide.opening.Opening.{Opening}
use Rattle.cb_scan.specs.declared.rules.wide.pass.Pass.{Pass}
use Rattle.cb_scan.specs.declared.rules.wide.reader.Reader.{Reader}
use Rattle.cb_scan.specs.declared.rules.wide.role.WideRole.TheVariants as wide
use Rattle.cb_scan.specs.declared.rules.wide.token.WideToken.{WideToken}
use Rattle.cb_scan.specs.lex.Tokens.{bytes_of, is_mark}
use Rattle.cb_scan.specs.rules.wide.Attributes.{ends_attribute}
use Rattle.cb_scan.specs.rules.wide.Words.{is_sign, role_from}
use Rattle.cb_scan.specs.steps.Functions.{is_after_linkage, range_to}
use Rattle.cb_scan.specs.steps.wide.Contents.{are_in_block, closed_by, defined_by, first_goes_on}
use Rattle.cb_scan.specs.steps.wide.Contents.{level_out, next_levels, tag_inside}
use Rattle.cb_scan.specs.steps.wide.Declarations.{before_in_file}
use Rattle.cb_scan.specs.steps.wide.Functions.{function_here, headed, next_depth, stopped, stops}
use Rattle.cb_scan.specs.steps.wide.Givens.{object_given, typedef_given}
use Rattle.cb_scan.specs.steps.wide.Levels.{opened}
use Rattle.cb_scan.specs.steps.wide.Lists.{Lists}
use Rattle.cb_scan.specs.steps.wide.Openings.{opening_tag, tag_out}
use Rattle.cb_scan.specs.steps.wide.Pass.{Taken, entered, function_found, is_block, left}
use Rattle.cb_scan.specs.steps.wide.Pass.{next_body, next_file, next_lists, next_of_file, next_pass}
use Rattle.cb_scan.specs.steps.wide.Pass.{part_at, parts_here, range_closed, take_first}
use Rattle.cb_scan.specs.steps.wide.Reading.{all_taken, item_of, opened_by, passed, taken_after}
use Rattle.cb_scan.specs.steps.wide.Reading.{taken_on}
use Rattle.cb_scan.specs.steps.wide.Sights.{sight_opening}
use Rattle.cb_scan.proofs.WideBlocks.{kept_levels, none_defined}
use Rattle.cb_scan.proofs.WideEnds.{mark_is}
use Rattle.cb_scan.proofs.WideTaken.{none_opened}

-- ---- the pass

module _ (p : Pass) (xs : List WideToken) (x : WideToken)
    (below : (p.machine.depth == 0) ≡ false) where
  no_function : function_found p x ≡ None
  no_function =
      (λ i. if is_block p x && below i then function_here p.machine else None)
      ∙ ap (λ b. if b then function_here p.machine else None) (and_right (is_block p x) false refl)

  no_part : parts_here p x ≡ []
  no_part = λ i. if below i then part_at (before_in_file p.file x) x else []

  file_stays : next_file p xs x ≡ p.file
  file_stays =
      λ i. if below i then next_of_file (before_in_file p.file x) (is_block p x) xs x else p.file

  body_stays : (next_depth p.machine x == 0) ≡ false → next_body p x ≡ p.body
  body_stays above =
      λ i. if below i then option_map (λ (d : Def). d.name) (function_found p x)
      else (if above i then None else p.body)

  -- a token that closes no function, opens no body and is of no level gives nothing
  gives_none : (l : Lists) → range_closed p x ≡ None → tag_out p.opening x ≡ []
      → defined_by p.levels xs x ≡ [] → next_lists l p xs x ≡ l
  gives_none l range tag inside =
      let all = (l.defs ++ []) ++ [] in
      (λ i. record {
        functions = l.functions ++ option_to_list (no_function i);
        ranges = l.ranges ++ option_to_list (range i);
        defs = ((l.defs ++ flat_map typedef_given (no_part i)) ++ tag i) ++ inside i;
        objects = l.objects ++ flat_map object_given (no_part i);
      })
      ∙ (λ i. record {
        functions = append-nil l.functions i;
        ranges = append-nil l.ranges i;
        defs = (append-nil all ∙ append-nil (l.defs ++ []) ∙ append-nil l.defs) i;
        objects = append-nil l.objects i;
      })

  -- a `{`
  module _ (counted : x.counted ≡ true) (role : x.role ≡ wide.Mark 123)
      (block : are_in_block p.levels ≡ true) (none : p.opening ≡ None) where
    deeper : next_depth p.machine x ≡ p.machine.depth + 1
    deeper = λ i. if counted i then p.machine.depth + 1
        else (if is_mark 125 x.token.role
        then (if x.token.starts_line then 0 else p.machine.depth - 1) else p.machine.depth)

    above : (next_depth p.machine x == 0) ≡ false
    above =
        let d = p.machine.depth in
        ap (λ n. n == 0) deeper
        ∙ false_from_ne_true (d + 1 == 0)
        (λ e. let zero_is : d + 1 ≡ 0 = eqb-true (d + 1) 0 e in absurd (omega arith))

    goes_on : stops p.machine x ≡ false
    goes_on = λ i. (is_sign 59 (role i) && p.machine.depth == 0)
        || (is_sign 125 (role i) && next_depth p.machine x == 0)
        || (is_sign 123 (role i) && not (counted i))

    pub pass_entered : next_pass p xs x ≡ entered p
    pass_entered =
        let levels : next_levels p.opening p.levels xs x ≡ Block ∷ p.levels =
        (λ i. if counted i then opened (none i) (tag_inside p.levels) ∷ first_goes_on p.levels xs x
        else (if is_sign 125 x.role then closed_by x p.levels else first_goes_on p.levels xs x))
        ∙ ap (λ ls. Block ∷ ls) (kept_levels p.levels xs x block) in
        λ i. record {
          opening = none_opened p.opening x (ap ends_attribute role) i;
          machine = if goes_on i then stopped p.machine x
              else record (if below i then headed p.machine xs x else p.machine) {
                depth = deeper i;
              };
          file = file_stays i;
          body = body_stays above i;
          levels = levels i;
        }

    pub lists_entered : (l : Lists) → next_lists l p xs x ≡ l
    lists_entered l =
        gives_none l
        (λ i. if is_sign 125 (role i) && next_depth p.machine x == 0
        then option_map (range_to x.token.span.end) p.body else None)
        (λ i. if counted i then opening_tag (none i) else [])
        (none_defined p.levels xs x block (ap (is_sign 125) role))

  -- a `}`
  module _ (uncounted : x.counted ≡ false) (role : x.role ≡ wide.Mark 125)
      (mark : is_mark 125 x.token.role ≡ true) (within : x.token.starts_line ≡ false)
      (nested : 2 ≤ p.machine.depth) where
    shallower : next_depth p.machine x ≡ p.machine.depth - 1
    shallower = λ i. if uncounted i then p.machine.depth + 1
        else (if mark i then (if within i then 0 else p.machine.depth - 1) else p.machine.depth)

    still_above : (next_depth p.machine x == 0) ≡ false
    still_above =
        let d = p.machine.depth in
        ap (λ n. n == 0) shallower
        ∙ false_from_ne_true (d - 1 == 0)
        (λ e. let zero_is : d - 1 ≡ 0 = eqb-true (d - 1) 0 e in absurd (omega arith))

    goes_out : stops p.machine x ≡ false
    goes_out = λ i. (is_sign 59 (role i) && p.machine.depth == 0)
        || (is_sign 125 (role i) && still_above i)
        || (is_sign 123 (role i) && not x.counted)

    pub pass_left : next_pass p xs x ≡ left p
    pass_left = λ i. record {
      opening = none_opened p.opening x (ap ends_attribute role) i;
      machine = if goes_out i then stopped p.machine x
          else record (if below i then headed p.machine xs x else p.machine) {
            depth = shallower i;
          };
      file = file_stays i;
      body = body_stays still_above i;
      levels = if uncounted i
          then opened p.opening (tag_inside p.levels) ∷ first_goes_on p.levels xs x
          else (if is_sign 125 (role i) then (if within i then [] else drop 1 p.levels)
          else first_goes_on p.levels xs x);
    }

    of_none : (ls : List Level) → defined_by ls xs x ≡ []
    of_none [] = refl
    of_none (l ∷ ls) = ap (λ r. if is_sign 125 r then [] else level_out l xs x) role

    pub lists_left : (l : Lists) → next_lists l p xs x ≡ l
    lists_left l =
        gives_none l
        (λ i. if is_sign 125 (role i) && still_above i
        then option_map (range_to x.token.span.end) p.body else None)
        (λ i. if uncounted i then opening_tag p.opening else [])
        (of_none p.levels)

-- ---- the reader

pub opens_parts : (a b : Bool) (o : Option Opening) → (a && (not b && is_none o)) ≡ true
    → (a ≡ true) × (b ≡ false) × (o ≡ None)
opens_parts true false None e = (refl, refl, refl)
opens_parts true false (Some o) e = absurd (false≢true e)
opens_parts true true o e = absurd (false≢true e)
opens_parts false b o e = absurd (false≢true e)

pub closes_parts : (a b : Bool) → (a && not b) ≡ true → (a ≡ true) × (b ≡ false)
closes_parts true false e = (refl, refl)
closes_parts true true e = absurd (false≢true e)
closes_parts false b e = absurd (false≢true e)

pub nested_below : (d : ℕ) → 2 ≤ d → (d == 0) ≡ false
nested_below d nested =
    false_from_ne_true (d == 0) (λ e. let none : d ≡ 0 = eqb-true d 0 e in absurd (omega arith))

module _ (text : List ℕ) (r : Reader) (t : Taken) (token : Token)
    (block : are_in_block t.pass.levels ≡ true)
    (below : (t.pass.machine.depth == 0) ≡ false) where
  brace_role : (b : ℕ) → is_mark b token.role ≡ true
      → (item_of text r token).role ≡ wide.Mark b
  brace_role b is = ap (λ k. role_from k (bytes_of text token.span)) (mark_is b token.role is)

  taken_is : ends_attribute (item_of text r token).role ≡ true
      → take_first (opened_by (sight_opening r.sight) t) (item_of text r token ∷ [])
      (item_of text r token)
      ≡ taken_after text r t token
  taken_is ends =
      let x = item_of text r token in
      sym (λ i. if ends i then take_first (all_taken (block i) (passed r token) t) (x ∷ []) x
      else taken_on (block i) (passed r token) t x)

  -- a `{`
  module _ (opens : is_mark 123 token.role ≡ true) (plain : is_after_linkage r.before ≡ false)
      (none : sight_opening r.sight ≡ None) where
    pub taken_entered : record t { pass = entered t.pass } ≡ taken_after text r t token
    taken_entered =
        let x = item_of text r token in
        let p = record t.pass { opening = sight_opening r.sight } in
        let counted : x.counted ≡ true = λ i. opens i && not (plain i) in
        let role = brace_role 123 opens in
        sym (λ i. record {
          pass = pass_entered p (x ∷ []) x below counted role block none i;
          lists = lists_entered p (x ∷ []) x below counted role block none t.lists i;
        })
        ∙ taken_is (ap ends_attribute role)

  -- a `}`
  module _ (closes : is_mark 125 token.role ≡ true) (within : token.starts_line ≡ false)
      (nested : 2 ≤ t.pass.machine.depth) where
    pub taken_left : record t { pass = left t.pass } ≡ taken_after text r t token
    taken_left =
        let x = item_of text r token in
        let p = record t.pass { opening = sight_opening r.sight } in
        let uncounted : x.counted ≡ false =
        ap (λ k. is_mark 123 k && not (is_after_linkage r.before)) (mark_is 125 token.role closes) in
        let role = brace_role 125 closes in
        sym (λ i. record {
          pass = pass_left p (x ∷ []) x below uncounted role closes within nested i;
          lists = lists_left p (x ∷ []) x below uncounted role closes within nested t.lists i;
        })
        ∙ taken_is (ap ends_attribute role)
