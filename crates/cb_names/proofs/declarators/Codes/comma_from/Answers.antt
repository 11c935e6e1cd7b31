use Rattle.std.proofs.Common.{◌≡◌, ◌∙◌, ◌+◌, ◌-◌, ◌<◌, add-one, ap, arith, sym}
use Rattle.cb_names.specs.Declarators.{comma_from}
use Rattle.cb_names.proofs.DeclaratorLemmas.{comma_done, comma_empty, comma_here, comma_next}
use Rattle.cb_names.proofs.declarators.Codes.comma_from.Goals as goal

pub returns-then-left-end-clause-value : goal.returns-then-left-end-clause-value
returns-then-left-end-clause-value c =
    let xs = c.args.self.now.shape.now.items.items in
    sym (comma_done xs c.args.list c.args.end (c.args.end - c.tokens.step) c.tokens.left c.if-left-end.true)
    ∙ c.tokens.invariant

pub returns-then-is_comma-clause-value : goal.returns-then-is_comma-clause-value
returns-then-is_comma-clause-value c =
    let xs = c.args.self.now.shape.now.items.items in
    let within : c.tokens.left < c.args.end = omega (arith, c.if-left-end.false) in
    let less : c.tokens.step < c.args.end = omega (arith, c.tokens-test.true) in
    sym (comma_here xs c.args.list c.args.end c.args.end c.tokens.step c.tokens.left less within
    (sym c.is_comma.ensures ∙ c.if-is_comma.true))
    ∙ c.tokens.invariant

pub tokens-preserved : goal.tokens-preserved
tokens-preserved c =
    let xs = c.args.self.now.shape.now.items.items in
    let within : c.tokens.left < c.args.end = omega (arith, c.if-left-end.false) in
    let less : c.tokens.step < c.args.end = omega (arith, c.tokens-test.true) in
    ap (comma_from xs c.args.list c.args.end (c.args.end - (c.tokens.step + 1))) (add-one c.tokens.left)
    ∙ sym (comma_next xs c.args.list c.args.end c.args.end c.tokens.step c.tokens.left less within
    (sym c.is_comma.ensures ∙ c.if-is_comma.false))
    ∙ c.tokens.invariant

pub returns-clause-value : goal.returns-clause-value
returns-clause-value c =
    let xs = c.args.self.now.shape.now.items.items in
    let none : c.args.end - c.tokens.step ≡ 0 = omega (arith, c.tokens-test.false) in
    sym (comma_empty xs c.args.list c.args.end (c.args.end - c.tokens.step) c.tokens.left none) ∙ c.tokens.invariant
