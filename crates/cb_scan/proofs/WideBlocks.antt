-- Inside a block the pass over the bare tokens finds nothing up to the next `;` or brace.
use Rattle.std.proofs.Common.{◌≡◌, ◌∙◌, suc, ◌+◌, ◌-◌, Bool, true, false, List, [], ◌∷◌, ◌++◌}
use Rattle.std.proofs.Common.{None, refl, sym, ap, arith, drop, length}
use Rattle.std.proofs.lemmas.Bool.{eqb-true, false_from_ne_true, false≢true}
use Rattle.std.proofs.lemmas.List.{append-nil}
use Rattle.std.specs.Prelude.{◌||◌, ◌==◌, if◌then◌else◌}
use Rattle.std.specs.List.{AllByRecursion}
use Rattle.std.specs.Option.{option_map}
use Rattle.cb_scan.specs.declared.facts.Def.{Def}
use Rattle.cb_scan.specs.declared.rules.wide.level.Level.{Level}
use Rattle.cb_scan.specs.declared.rules.wide.level.Level.TheVariants.{Block, Enumerators, Members}
use Rattle.cb_scan.specs.declared.rules.wide.pass.Pass.{Pass}
use Rattle.cb_scan.specs.declared.rules.wide.token.WideToken.{WideToken}
use Rattle.cb_scan.specs.lex.Tokens.{is_mark}
use Rattle.cb_scan.specs.rules.wide.Words.{is_sign}
use Rattle.cb_scan.specs.steps.wide.Contents.{are_in_block, closed_by, defined_by, first_goes_on}
use Rattle.cb_scan.specs.steps.wide.Contents.{next_levels, tag_inside}
use Rattle.cb_scan.specs.steps.wide.Declarations.{before_in_file}
use Rattle.cb_scan.specs.steps.wide.Functions as functions
use Rattle.cb_scan.specs.steps.wide.Functions.{found}
use Rattle.cb_scan.specs.steps.wide.Levels.{opened}
use Rattle.cb_scan.specs.steps.wide.Lists.{Lists}
use Rattle.cb_scan.specs.steps.wide.Openings.{next_opening}
use Rattle.cb_scan.specs.steps.wide.Pass.{Taken, function_found, is_block, is_brace, next_body}
use Rattle.cb_scan.specs.steps.wide.Pass.{next_file}
use Rattle.cb_scan.specs.steps.wide.Pass.{next_lists, next_of_file, next_pass}
use Rattle.cb_scan.specs.steps.wide.Pass.{take_all}
use Rattle.cb_scan.specs.steps.wide.Reading.{opened_by}
use Rattle.cb_scan.specs.steps.wide.Sights.{opening_along}
use Rattle.cb_scan.proofs.WideOther.{no_close, none_of_file, other_found, same_depth, same_machine}
use Rattle.cb_scan.proofs.WideOther.{uncounted}
use Rattle.cb_scan.proofs.WideSegments.{IsInner, depth_next_is}

-- ---- how deep in braces

-- a token is a `}` by its role where it is one
abbrev pub IsRead : WideToken → Type 0
IsRead x = is_sign 125 x.role ≡ is_mark 125 x.token.role

-- there is a level for each brace that is open
abbrev pub IsDeep : Pass → Type 0
IsDeep p = p.machine.depth ≡ length p.levels

goes_on_length : (ls : List Level) (xs : List WideToken) (x : WideToken)
    → length (first_goes_on ls xs x) ≡ length ls
goes_on_length [] xs x = refl
goes_on_length (l ∷ ls) xs x = refl

drop_length : (ls : List Level) → length (drop 1 ls) ≡ length ls - 1
drop_length [] = omega arith
drop_length (l ∷ ls) = omega arith

pub deep_next : (p : Pass) (xs : List WideToken) (x : WideToken) → IsRead x → IsDeep p
    → IsDeep (next_pass p xs x)
deep_next p xs x read deep =
    depth_next_is p.machine xs x
    ∙ (λ i. if x.counted then deep i + 1
    else (if sym read i then (if x.token.starts_line then 0 else deep i - 1) else deep i))
    ∙ by_tests x.counted (is_sign 125 x.role) x.token.starts_line
  where
    by_tests : (c b s : Bool)
        → (if c then length p.levels + 1
        else (if b then (if s then 0 else length p.levels - 1) else length p.levels))
        ≡ length (if c then opened p.opening (tag_inside p.levels) ∷ first_goes_on p.levels xs x
        else (if b then (if s then [] else drop 1 p.levels) else first_goes_on p.levels xs x))
    by_tests true b s =
        let same = goes_on_length p.levels xs x in
        let one : length p.levels + 1 ≡ suc (length (first_goes_on p.levels xs x)) =
        omega (arith, same) in one
    by_tests false true true = refl
    by_tests false true false = sym (drop_length p.levels)
    by_tests false false s = sym (goes_on_length p.levels xs x)

-- ---- a token inside a block

in_block_deep : (ls : List Level) → are_in_block ls ≡ true → (length ls == 0) ≡ false
in_block_deep [] is = absurd (false≢true is)
in_block_deep (l ∷ ls) is = false_from_ne_true (suc (length ls) == 0)
    (λ e. let none : suc (length ls) ≡ 0 = eqb-true (suc (length ls)) 0 e in absurd (omega arith))

-- such a level goes on as it is
pub kept_levels : (ls : List Level) (xs : List WideToken) (x : WideToken) → are_in_block ls ≡ true
    → first_goes_on ls xs x ≡ ls
kept_levels [] xs x is = refl
kept_levels (Block ∷ ls) xs x is = refl
kept_levels (Members tag d ∷ ls) xs x is = absurd (false≢true is)
kept_levels (Enumerators tag e ∷ ls) xs x is = absurd (false≢true is)

pub none_defined : (ls : List Level) (xs : List WideToken) (x : WideToken) → are_in_block ls ≡ true
    → is_sign 125 x.role ≡ false → defined_by ls xs x ≡ []
none_defined [] xs x is closes = refl
none_defined (Block ∷ ls) xs x is closes = ap (λ b. if b then [] else []) closes
none_defined (Members tag d ∷ ls) xs x is closes = absurd (false≢true is)
none_defined (Enumerators tag e ∷ ls) xs x is closes = absurd (false≢true is)

module _ (p : Pass) (x : WideToken) (xs : List WideToken) (other : is_brace x ≡ false)
    (block : are_in_block p.levels ≡ true) (below : (p.machine.depth == 0) ≡ false) where
  pub pass_in_block : next_pass p xs x ≡ record p { opening = next_opening p.opening x }
  pass_in_block =
      let file : next_file p xs x ≡ p.file =
      ap (λ b. if b then next_of_file (before_in_file p.file x) (is_block p x) xs x else p.file)
      below in
      let goes_on : (functions.next_depth p.machine x == 0) ≡ false =
      ap (λ d. d == 0) (same_depth x other p.machine.depth) ∙ below in
      let body : next_body p x ≡ p.body =
      (λ i. if below i then option_map (λ (d : Def). d.name) (function_found p x)
      else (if goes_on i then None else p.body)) in
      let levels : next_levels p.opening p.levels xs x ≡ p.levels =
      (λ i. if uncounted x other i
      then opened p.opening (tag_inside p.levels) ∷ first_goes_on p.levels xs x
      else (if no_close x other i then closed_by x p.levels else first_goes_on p.levels xs x))
      ∙ kept_levels p.levels xs x block in
      λ i. record {
        opening = next_opening p.opening x;
        machine = same_machine x other p.machine xs below i;
        file = file i;
        body = body i;
        levels = levels i;
      }

  pub lists_in_block : (l : Lists) → next_lists l p xs x ≡ l
  lists_in_block l =
      let found : record l { defs = l.defs ++ defined_by p.levels xs x } ≡ next_lists l p xs x =
      other_found x other l l p p xs (none_of_file x other l p below) refl in
      sym found
      ∙ ap (λ ds. record l { defs = l.defs ++ ds })
      (none_defined p.levels xs x block (no_close x other))
      ∙ ap (λ ds. record l { defs = ds }) (append-nil l.defs)

-- a token that is no `;` and no brace
inner_other : (x : WideToken) → IsInner x → is_brace x ≡ false
inner_other x inner =
    λ i. inner.uncounted i || inner.no_open i || inner.no_close i || inner.no_mark i

-- the tokens up to the next `;` or brace change what a `{` would open and nothing else
pub in_block : (t : Taken) (s : List WideToken) → AllByRecursion IsInner s
    → are_in_block t.pass.levels ≡ true → IsDeep t.pass
    → take_all t s ≡ opened_by (opening_along t.pass.opening s) t
unfolding take_all opening_along
in_block t [] all block deep = refl
in_block t (x ∷ s) all block deep =
    let other = inner_other x all.0 in
    let below = ap (λ d. d == 0) deep ∙ in_block_deep t.pass.levels block in
    (λ i. take_all (record {
      pass = pass_in_block t.pass x (x ∷ s) other block below i;
      lists = lists_in_block t.pass x (x ∷ s) other block below t.lists i;
    }) s)
    ∙ in_block (opened_by (next_opening t.pass.opening x) t) s all.1 block deep
