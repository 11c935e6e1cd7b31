use Rattle.std.proofs.Common.{◌≡◌, ◌∙◌, ◌+◌, ◌∷◌, [], ◌≤◌, ℕ, false, List, sym, ap, arith, length}
use Rattle.std.proofs.lemmas.List.{drop_all, drop_more, take_rest}
use Rattle.std.specs.Prelude.{◌==◌, drop, slice_index_or}
use Rattle.cb_scan.specs.declared.lex.token.Role.TheVariants.{Word}
use Rattle.cb_scan.specs.declared.lex.token.WordKind.TheVariants as kind
use Rattle.cb_scan.specs.declared.rules.wide.part.Part.{Part}
use Rattle.cb_scan.specs.declared.rules.wide.role.WideRole.TheVariants as wide
use Rattle.cb_scan.specs.declared.rules.wide.token.WideToken.{WideToken}
use Rattle.cb_scan.specs.rules.wide.Levels.{numbered}
use Rattle.cb_scan.specs.steps.wide.Along.{part_from}
use Rattle.cb_scan.specs.steps.wide.Parts as parts
use Rattle.cb_scan.specs.steps.wide.Parts.{next_part, part_start}
use Rattle.cb_scan.specs.rules.Typedefs.{nesting_after}
use Rattle.cb_scan.proofs.WideHeads.{items_are}
use Rattle.cb_scan.proofs.WideParts.{function_name_is, name_is, stray_is, value_is}
use Rattle.cb_scan.proofs.rules.wide.naming.part_names.Goals as goal

-- the token where there is none
abbrev none : WideToken
none = record {
  token = record {
    role = Word kind.Name;
    starts_line = false;
    span = record { start = 0; end = 0 };
    line = 0;
  };
  role = wide.Name;
  counted = false;
}

-- one token further
step : (p : Part) (n : ℕ) (x : WideToken) (rest : List WideToken)
    → part_from (next_part p (n == 0) (x ∷ rest) x) (numbered (nesting_after x.token n) rest)
    ≡ part_from p (numbered n (x ∷ rest))
unfolding part_from numbered
step p n x rest =
    ap (λ l. part_from (next_part p (n == 0) (x ∷ l) x) (numbered (nesting_after x.token n) rest))
    (sym (items_are (nesting_after x.token n) rest))

-- the end is reached
ended : (p : Part) (n i : ℕ) (ts : List WideToken) → length ts ≤ i → part_from p (numbered n (drop i ts)) ≡ p
unfolding part_from numbered
ended p n i ts over = ap (λ l. part_from p (numbered n l)) (drop_all i ts over)

pub loop-i-preserved : goal.loop-i-preserved
loop-i-preserved c =
    let ts = c.args.tokens.now in
    let i = c.loop-i.i in
    let p = c.loop-i.part in
    let n = c.loop-i.count in
    let x = slice_index_or ts i none in
    let split : drop i ts ≡ x ∷ drop (i + 1) ts = drop_more ts i none c.loop-i-test.true in
    record {
      few = omega (arith, c.nesting_after-count.ensures.small, c.loop-i.invariant.few);
      rest = (λ k. part_from (c.add.ensures k) (numbered (c.nesting_after-count.ensures.value k) (drop (i + 1) ts)))
          ∙ ap (λ l. part_from (next_part p (n == 0) l x) (numbered (nesting_after x.token n) (drop (i + 1) ts)))
          (take_rest ts i ∙ split)
          ∙ step p n x (drop (i + 1) ts)
          ∙ ap (λ l. part_from p (numbered n l)) (sym split)
          ∙ c.loop-i.invariant.rest;
    }

-- the whole part is read
pub returns-clause-name : goal.returns-clause-name
returns-clause-name c =
    let ts = c.args.tokens.now in
    let whole = sym (ended c.loop-i.part c.loop-i.count c.loop-i.i ts c.loop-i-test.false) ∙ c.loop-i.invariant.rest in
    c.named.ensures ∙ ap parts.named whole ∙ name_is c.args.is_first (numbered 0 ts) []

pub returns-clause-function : goal.returns-clause-function
returns-clause-function c =
    let ts = c.args.tokens.now in
    let whole = sym (ended c.loop-i.part c.loop-i.count c.loop-i.i ts c.loop-i-test.false) ∙ c.loop-i.invariant.rest in
    c.function.ensures ∙ ap parts.function whole ∙ function_name_is c.args.is_first (numbered 0 ts) []

pub returns-clause-value : goal.returns-clause-value
returns-clause-value c =
    let ts = c.args.tokens.now in
    let whole = sym (ended c.loop-i.part c.loop-i.count c.loop-i.i ts c.loop-i-test.false) ∙ c.loop-i.invariant.rest in
    ap (λ (p : Part). p.has_value) whole ∙ value_is c.args.is_first (numbered 0 ts) []

pub returns-clause-stray : goal.returns-clause-stray
returns-clause-stray c =
    let ts = c.args.tokens.now in
    let whole = sym (ended c.loop-i.part c.loop-i.count c.loop-i.i ts c.loop-i-test.false) ∙ c.loop-i.invariant.rest in
    ap (λ (p : Part). p.is_stray) whole ∙ stray_is c.args.is_first (numbered 0 ts) []
