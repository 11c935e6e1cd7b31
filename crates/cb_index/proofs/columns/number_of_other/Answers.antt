use Rattle.std.proofs.Common.{◌≡◌, ◌∙◌, ◌<◌, Some, get_or, length, sym, ap, arith}
use Rattle.std.proofs.lemmas.List.FromFn.{get_or-map-range_with_len, length-map-range_with_len}
use Rattle.std.proofs.lemmas.Slice.Eq.{bytes_eq-Decides}
use Rattle.cb_scan.specs.TextFacts.{TextFacts}
use Rattle.cb_index.specs.steps.FunctionSpans.{function_span}
use Rattle.cb_index.specs.steps.Numbering.{function_at, number_of}
use Rattle.cb_index.proofs.NumberLemmas.{number_before}
use Rattle.cb_index.proofs.RepeatLemmas.{one_function}
use Rattle.cb_index.proofs.columns.number_of_other.Goals as goal

pub returns-then-have_one_span : goal.returns-then-have_one_span
returns-then-have_one_span c =
    let sort = c.args.sort in
    let text = c.args.text.now in
    let other = c.args.other in
    let item = c.args.item in
    let number = c.in_ok-number.field-0.now in
    let f = c.facts.result.now in
    let found = c.in_ok-number.ensures.lookup in
    let before : other < item =
    omega (
      arith,
      found.3.0,
      ap length c.requires,
      length-map-range_with_len (number_of sort text) 0 item,
    ) in
    let same : function_span sort f other ≡ function_span sort f item =
    c.have_one_span.ensures c.if-have_one_span.true in
    let named : function_at sort text other ≡ function_at sort text item =
    sym ((bytes_eq-Decides (function_at sort text item) (function_at sort text other)).0
    (sym (one_function text sort other item
    (sym (ap (λ (t : TextFacts). function_span sort t other) c.facts.ensures) ∙ same
    ∙ ap (λ (t : TextFacts). function_span sort t item) c.facts.ensures)))) in
    let is : number ≡ number_of sort text other =
    found.1 ∙ ap (λ ns. get_or ns other number) c.requires
    ∙ get_or-map-range_with_len (number_of sort text) 0 item other other number before
    (omega arith) in
    number_before sort text item other before named ∙ ap Some (sym is)
