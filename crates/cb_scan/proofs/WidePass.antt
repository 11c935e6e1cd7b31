-- What the pass over the bare tokens looks at, and which functions and ranges it gathers.
use Rattle.std.proofs.Common.{◌≡◌, ◌∙◌, ℕ, Bool, true, false, List, [], ◌∷◌, ◌++◌, Option, Some}
use Rattle.std.proofs.Common.{None, refl, sym, ap, length, map, append_assoc}
use Rattle.std.proofs.lemmas.List.{append-nil}
use Rattle.std.specs.Prelude.{◌&&◌, ◌==◌, not, if◌then◌else◌}
use Rattle.std.specs.Option.{is_none, is_some, option_map, option_to_list}
use Rattle.std.specs.List.{flat_map}
use Rattle.cb_scan.specs.declared.lex.token.Token.{Token}
use Rattle.cb_scan.specs.declared.rules.wide.declaration.Declaration.{Declaration}
use Rattle.cb_scan.specs.declared.facts.Def.{Def}
use Rattle.cb_scan.specs.declared.rules.wide.level.Level.{Level}
use Rattle.cb_scan.specs.declared.rules.wide.opening.Opening.{Opening}
use Rattle.cb_scan.specs.declared.rules.wide.pass.Pass.{Pass}
use Rattle.cb_scan.specs.declared.rules.wide.token.WideToken.{WideToken}
use Rattle.cb_scan.specs.Definitions.{function_def}
use Rattle.cb_scan.specs.rules.Scope.{function_range}
use Rattle.cb_scan.specs.rules.wide.Attributes.{without_attributes}
use Rattle.cb_scan.specs.rules.wide.Bodies.{Body, opens_body}
use Rattle.cb_scan.specs.rules.wide.Functions.{wide_functions}
use Rattle.cb_scan.specs.rules.wide.Words.{is_sign}
use Rattle.cb_scan.specs.steps.Functions.{range_to}
use Rattle.cb_scan.specs.steps.wide.Ahead.{seen}
use Rattle.cb_scan.specs.steps.wide.Contents.{closed_by, defined_by, next_levels, tag_inside}
use Rattle.cb_scan.specs.steps.wide.Declarations as declarations
use Rattle.cb_scan.specs.steps.wide.Declarations.{ends_part, next_in_file, next_part_of}
use Rattle.cb_scan.specs.steps.wide.Functions as functions
use Rattle.cb_scan.specs.steps.wide.Functions.{found, functions_from}
use Rattle.cb_scan.specs.steps.wide.Levels.{opened}
use Rattle.cb_scan.specs.steps.wide.Givens.{typedef_given}
use Rattle.cb_scan.specs.steps.wide.Lists.{Lists}
use Rattle.cb_scan.specs.steps.wide.Openings.{tag_out}
use Rattle.cb_scan.specs.steps.wide.Pass.{Taken, function_found, is_block, next_lists, take_all}
use Rattle.cb_scan.specs.steps.wide.Pass.{next_of_file, next_pass, parts_here, pass_start}
use Rattle.cb_scan.specs.steps.wide.Pass.{range_closed, take_first}
use Rattle.cb_scan.proofs.Bodies.{def_name}
use Rattle.cb_scan.proofs.WideBareRanges.{bare_ranges_are, ranges_along}
use Rattle.cb_scan.proofs.WideBodies.{Opens}
use Rattle.cb_scan.proofs.WideFunctions.{all, functions_are}
use Rattle.cb_scan.proofs.WideSeen.{grown_seen, next_seen, out_seen}
use Rattle.cb_scan.proofs.WideSegments.{machine_seen}

-- ---- what is ahead

of_file_seen : (d : Declaration) (block : Bool) (x : WideToken) (xs : List WideToken)
    → next_of_file d block (x ∷ xs) x ≡ next_of_file d block (seen (x ∷ xs)) x
of_file_seen d block x xs =
    ap (λ g. next_in_file (if ends_part d x then next_part_of d x else g) block x)
    (grown_seen d x xs)

levels_seen : (o : Option Opening) (ls : List Level) (x : WideToken) (xs : List WideToken)
    → next_levels o ls (x ∷ xs) x ≡ next_levels o ls (seen (x ∷ xs)) x
levels_seen o [] x xs = refl
levels_seen o (l ∷ ls) x xs =
    ap (λ m. if x.counted then opened o (tag_inside (l ∷ ls)) ∷ m ∷ ls
    else (if is_sign 125 x.role then closed_by x (l ∷ ls) else m ∷ ls)) (next_seen l x xs)

defined_seen : (ls : List Level) (x : WideToken) (xs : List WideToken)
    → defined_by ls (x ∷ xs) x ≡ defined_by ls (seen (x ∷ xs)) x
defined_seen [] x xs = refl
defined_seen (l ∷ ls) x xs = ap (λ d. if is_sign 125 x.role then [] else d) (out_seen l x xs)

-- the pass looks no further than the next `;` or brace
pub pass_seen : (p : Pass) (x : WideToken) (xs : List WideToken)
    → next_pass p (x ∷ xs) x ≡ next_pass p (seen (x ∷ xs)) x
pass_seen p x xs = λ i. record (next_pass p (x ∷ xs) x) {
  machine = machine_seen p.machine x xs i;
  file = if p.machine.depth == 0
      then of_file_seen (declarations.before_in_file p.file x) (is_block p x) x xs i else p.file;
  levels = levels_seen p.opening p.levels x xs i;
}

pub lists_seen : (l : Lists) (p : Pass) (x : WideToken) (xs : List WideToken)
    → next_lists l p (x ∷ xs) x ≡ next_lists l p (seen (x ∷ xs)) x
lists_seen l p x xs =
    let with : List Def → Lists = λ d. record (next_lists l p (x ∷ xs) x) {
      defs = ((l.defs ++ flat_map typedef_given (parts_here p x)) ++ tag_out p.opening x) ++ d;
    } in
    ap with (defined_seen p.levels x xs)

-- ---- what is gathered

-- a brace is a block by what it would open
pub block_is : (bs : List Body) (o : Option Opening) (x : WideToken)
    → (x.counted ≡ true → opens_body bs x.token.span.start ≡ is_some o)
    → (x.counted && is_none o) ≡ declarations.is_block bs x
block_is bs o x same = by_count x.counted same
  where
    none_is : (o : Option Opening) → is_none o ≡ not (is_some o)
    none_is None = refl
    none_is (Some k) = refl

    by_count : (c : Bool) → (c ≡ true → opens_body bs x.token.span.start ≡ is_some o)
        → (c && is_none o) ≡ (c && not (opens_body bs x.token.span.start))
    by_count true same = none_is o ∙ ap not (sym (same refl))
    by_count false same = refl

module _ (bs : List Body) where
  functions_gathered : (xs : List WideToken) (t : Taken) → Opens bs t.pass.opening xs
      → (take_all t xs).lists.functions
      ≡ t.lists.functions ++ functions_from bs t.pass.machine xs
  unfolding take_all functions_from
  functions_gathered [] t same = sym (append-nil t.lists.functions)
  functions_gathered (x ∷ xs) t same =
      let p = t.pass in
      let q = next_pass p (x ∷ xs) x in
      functions_gathered xs (take_first t (x ∷ xs) x) same.1
      ∙ append_assoc t.lists.functions (option_to_list (function_found p x))
      (functions_from bs q.machine xs)
      ∙ (λ i. t.lists.functions
      ++ (option_to_list (found p.machine (block_is bs p.opening x same.0 i))
      ++ functions_from bs q.machine xs))

  ranges_gathered : (end : ℕ) (xs : List WideToken) (t : Taken) → Opens bs t.pass.opening xs
      → (take_all t xs).lists.ranges
      ++ option_to_list (option_map (range_to end) (take_all t xs).pass.body)
      ≡ t.lists.ranges ++ ranges_along bs end t.pass.body t.pass.machine xs
  unfolding take_all ranges_along
  ranges_gathered end [] t same = refl
  ranges_gathered end (x ∷ xs) t same =
      let p = t.pass in
      let q = next_pass p (x ∷ xs) x in
      ranges_gathered end xs (take_first t (x ∷ xs) x) same.1
      ∙ append_assoc t.lists.ranges (option_to_list (range_closed p x))
      (ranges_along bs end q.body q.machine xs)
      ∙ (λ i. t.lists.ranges ++ (option_to_list (range_closed p x)
      ++ ranges_along bs end (if p.machine.depth == 0
      then option_map def_name (found p.machine (block_is bs p.opening x same.0 i))
      else (if functions.next_depth p.machine x == 0 then None else p.body)) q.machine xs))

-- ---- the code

module _ (text : List ℕ) (ts : List Token) (bs : List Body) (l : Lists)
    (same : Opens bs None (without_attributes (all text ts bs))) where
  -- the pass at the end of the code
  abbrev taken : Taken
  taken =
      take_all (record { pass = pass_start; lists = l }) (without_attributes (all text ts bs))

  -- its functions and their ranges, of which one may end with the text
  pub pass_functions : taken.lists.functions
      ≡ l.functions ++ map function_def (wide_functions ts (all text ts bs) bs)
  pass_functions =
      functions_gathered bs (without_attributes (all text ts bs))
      (record { pass = pass_start; lists = l }) same
      ∙ ap (λ fs. l.functions ++ fs) (functions_are text ts bs)

  pub pass_ranges : taken.lists.ranges
      ++ option_to_list (option_map (range_to (length text)) taken.pass.body)
      ≡ l.ranges ++ map (function_range text ts) (wide_functions ts (all text ts bs) bs)
  pass_ranges =
      ranges_gathered bs (length text) (without_attributes (all text ts bs))
      (record { pass = pass_start; lists = l }) same
      ∙ ap (λ rs. l.ranges ++ rs) (bare_ranges_are text ts bs)
