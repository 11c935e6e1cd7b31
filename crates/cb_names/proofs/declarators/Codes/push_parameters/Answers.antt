use Rattle.std.proofs.Common.{◌≡◌, ◌∙◌, ◌+◌, ◌-◌, ◌<◌, add-one, ap, arith, suc, sym}
use Rattle.cb_names.specs.Declarators.{both, found_in_parameter, found_in_parameters}
use Rattle.cb_names.proofs.DeclaratorLemmas.{both_assoc, both_nothing, parameters_empty, parameters_last, parameters_next}
use Rattle.cb_names.proofs.declarators.Codes.push_parameters.Goals as goal

pub parameters-init : goal.parameters-init
parameters-init c =
    let all : suc c.args.end - 0 ≡ suc c.args.end = omega arith in
    (λ i. both c.args.found.now (found_in_parameters c.args.self.now.shape.now.items.items c.args.list c.args.end
    (all i) (add-one c.args.list i)))

pub returns-then-comma-end : goal.returns-then-comma-end
returns-then-comma-end c =
    let xs = c.args.self.now.shape.now.items.items in
    let less : c.parameters.step < suc c.args.end = omega (arith, c.parameters-test.true) in
    c.in_ok-push_parameter.ensures
    ∙ ap (both c.parameters.found) (sym (parameters_last xs c.args.list c.args.end (suc c.args.end) c.parameters.step
    c.parameters.left c.comma_from-comma.result less c.comma_from-comma.ensures.value c.if-comma-end.true))
    ∙ c.parameters.invariant

pub parameters-preserved : goal.parameters-preserved
parameters-preserved c =
    let xs = c.args.self.now.shape.now.items.items in
    let end = c.args.end in
    let comma = c.comma_from-comma.result in
    let less : c.parameters.step < suc end = omega (arith, c.parameters-test.true) in
    let under : comma < end = omega (arith, c.if-comma-end.false) in
    let rest = found_in_parameters xs c.args.list end (suc end - (c.parameters.step + 1)) in
    (λ i. both (c.in_ok-push_parameter.ensures i) (rest (add-one comma i)))
    ∙ both_assoc c.parameters.found (found_in_parameter xs c.parameters.left comma) (rest (suc comma))
    ∙ ap (both c.parameters.found) (sym (parameters_next xs c.args.list end (suc end) c.parameters.step
    c.parameters.left comma less c.comma_from-comma.ensures.value under))
    ∙ c.parameters.invariant

pub returns : goal.returns
returns c =
    let xs = c.args.self.now.shape.now.items.items in
    let none : suc c.args.end - c.parameters.step ≡ 0 = omega (arith, c.parameters-test.false) in
    sym (ap (both c.parameters.found) (parameters_empty xs c.args.list c.args.end _ c.parameters.left none)
    ∙ both_nothing c.parameters.found)
    ∙ c.parameters.invariant
