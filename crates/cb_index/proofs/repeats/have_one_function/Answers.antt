use Rattle.std.proofs.Common.{◌≡◌, ◌∙◌, sym, ap}
use Rattle.cb_scan.specs.TextFacts.{TextFacts}
use Rattle.cb_index.specs.steps.FunctionSpans.{function_span}
use Rattle.cb_index.proofs.RepeatLemmas.{one_function}
use Rattle.cb_index.proofs.repeats.have_one_function.Goals as goal

pub returns-then-have_one_span : goal.returns-then-have_one_span
returns-then-have_one_span c =
    let sort = c.args.sort in
    let a = c.args.a in
    let b = c.args.b in
    let f = c.facts.result.now in
    let same : function_span sort f a ≡ function_span sort f b =
    c.have_one_span.ensures c.if-have_one_span.true in
    one_function c.args.text.now sort a b
    (sym (ap (λ (t : TextFacts). function_span sort t a) c.facts.ensures) ∙ same
    ∙ ap (λ (t : TextFacts). function_span sort t b) c.facts.ensures)
