-- A token that is no brace opens and closes nothing.
use Rattle.std.proofs.Common.{◌≡◌, ◌∙◌, false, List, [], ◌++◌, None, ap, sym, refl, ℕ, ◌+◌, ◌-◌}
use Rattle.std.proofs.lemmas.Bool.{and_right, or_parts}
use Rattle.std.proofs.lemmas.List.{append-nil}
use Rattle.std.specs.Prelude.{◌&&◌, ◌||◌, ◌==◌, not, if◌then◌else◌}
use Rattle.std.specs.List.{flat_map}
use Rattle.std.specs.Option.{is_none, option_map, option_to_list}
use Rattle.cb_scan.specs.declared.rules.wide.machine.WideMachine.{WideMachine}
use Rattle.cb_scan.specs.declared.rules.wide.pass.Pass.{Pass}
use Rattle.cb_scan.specs.declared.rules.wide.token.WideToken.{WideToken}
use Rattle.cb_scan.specs.lex.Tokens.{is_mark}
use Rattle.cb_scan.specs.rules.Depth.{depth_after}
use Rattle.cb_scan.specs.rules.wide.Words.{is_sign}
use Rattle.cb_scan.specs.steps.Functions.{range_to}
use Rattle.cb_scan.specs.steps.wide.Contents.{defined_by}
use Rattle.cb_scan.specs.steps.wide.Functions.{function_here, headed, next, next_depth, stopped}
use Rattle.cb_scan.specs.steps.wide.Functions.{stops}
use Rattle.cb_scan.specs.steps.wide.Givens.{object_given, typedef_given}
use Rattle.cb_scan.specs.steps.wide.Lists.{Lists}
use Rattle.cb_scan.specs.steps.wide.Openings.{opening_tag, tag_out}
use Rattle.cb_scan.specs.steps.wide.Declarations.{Given}
use Rattle.cb_scan.specs.steps.wide.Pass.{function_found, is_brace, next_lists, parts_here}
use Rattle.cb_scan.specs.steps.wide.Pass.{range_closed}

module _ (x : WideToken) (other : is_brace x ≡ false) where
  unbraced : (x.counted || is_sign 123 x.role || is_sign 125 x.role) ≡ false
  unbraced = (or_parts (x.counted || is_sign 123 x.role || is_sign 125 x.role)
      (is_mark 125 x.token.role) other).0

  unopened : (x.counted || is_sign 123 x.role) ≡ false
  unopened = (or_parts (x.counted || is_sign 123 x.role) (is_sign 125 x.role) unbraced).0

  pub no_close : is_sign 125 x.role ≡ false
  no_close = (or_parts (x.counted || is_sign 123 x.role) (is_sign 125 x.role) unbraced).1

  no_mark : is_mark 125 x.token.role ≡ false
  no_mark = (or_parts (x.counted || is_sign 123 x.role || is_sign 125 x.role)
      (is_mark 125 x.token.role) other).1

  pub no_open : is_sign 123 x.role ≡ false
  no_open = (or_parts x.counted (is_sign 123 x.role) unopened).1

  pub uncounted : x.counted ≡ false
  uncounted = (or_parts x.counted (is_sign 123 x.role) unopened).0

  -- the depth stays
  pub same_depth : (d : ℕ) → depth_after x.counted x.token d ≡ d
  same_depth d =
      λ i. if uncounted i then d + 1
      else (if no_mark i then (if x.token.starts_line then 0 else d - 1) else d)

  -- deeper in braces the machine stays
  pub same_machine : (m : WideMachine) (xs : List WideToken) → (m.depth == 0) ≡ false
      → next m xs x ≡ m
  same_machine m xs deep =
      let no_stop : stops m x ≡ false =
      (λ i. (is_sign 59 x.role && deep i)
      || (no_close i && next_depth m x == 0)
      || (no_open i && not x.counted))
      ∙ ap (λ b. b || false || false) (and_right (is_sign 59 x.role) false refl) in
      λ i. if no_stop i then stopped m x
      else record (if deep i then headed m xs x else m) { depth = same_depth m.depth i }

  pub no_function : (p : Pass) → function_found p x ≡ None
  no_function p =
      λ i. if (uncounted i && is_none p.opening) && p.machine.depth == 0
      then function_here p.machine else None

  -- deeper in braces it gives nothing
  pub none_of_file : (l : Lists) (p : Pass) → (p.machine.depth == 0) ≡ false
      → l ≡ record l {
        defs = l.defs ++ flat_map typedef_given (parts_here p x);
        objects = l.objects ++ flat_map object_given (parts_here p x);
      }
  none_of_file l p deep =
      let none : parts_here p x ≡ [] =
      ap (λ b. if b then parts_here (record p { machine = record p.machine { depth = 0 } }) x
      else []) deep in
      sym ((λ i. of_file_of l (none i)) ∙ (λ i. record l {
        defs = append-nil l.defs i;
        objects = append-nil l.objects i;
      }))
    where
      of_file_of : Lists → List Given → Lists
      of_file_of l gs = record l {
        defs = l.defs ++ flat_map typedef_given gs;
        objects = l.objects ++ flat_map object_given gs;
      }

  -- what is found is of the file or of the innermost level
  pub other_found : (l f : Lists) (p q : Pass) (xs : List WideToken)
      → f ≡ record l {
        defs = l.defs ++ flat_map typedef_given (parts_here p x);
        objects = l.objects ++ flat_map object_given (parts_here p x);
      }
      → q.levels ≡ p.levels
      → record f { defs = f.defs ++ defined_by q.levels xs x } ≡ next_lists l p xs x
  other_found l f p q xs file levels =
      let none_closed : range_closed p x ≡ None =
      (λ i. if no_close i && next_depth p.machine x == 0
      then option_map (range_to x.token.span.end) p.body else None) in
      let no_tag : tag_out p.opening x ≡ [] =
      ap (λ b. if b then opening_tag p.opening else []) uncounted in
      let functions_same : l.functions ++ option_to_list (function_found p x) ≡ l.functions =
      ap (λ o. l.functions ++ option_to_list o) (no_function p) ∙ append-nil l.functions in
      let ranges_same : l.ranges ++ option_to_list (range_closed p x) ≡ l.ranges =
      ap (λ o. l.ranges ++ option_to_list o) none_closed ∙ append-nil l.ranges in
      let given = l.defs ++ flat_map typedef_given (parts_here p x) in
      let no_tag_after : given ++ tag_out p.opening x ≡ given =
      ap (λ ts. given ++ ts) no_tag ∙ append-nil given in
      let in_level : defined_by q.levels xs x ≡ defined_by p.levels xs x =
      ap (λ ls. defined_by ls xs x) levels in
      (λ i. record (file i) { defs = (file i).defs ++ in_level i })
      ∙ (λ i. record {
        functions = sym functions_same i;
        ranges = sym ranges_same i;
        defs = sym no_tag_after i ++ defined_by p.levels xs x;
        objects = l.objects ++ flat_map object_given (parts_here p x);
      })
