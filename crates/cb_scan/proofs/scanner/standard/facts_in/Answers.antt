use Rattle.std.proofs.Common.{◌≡◌, ◌∙◌, ◌++◌}
use Rattle.cb_scan.specs.steps.Cut.{pieces}
use Rattle.cb_scan.specs.Definitions.{definitions, definitions_from}
use Rattle.cb_scan.specs.Order.{def_key, in_order}
use Rattle.cb_scan.specs.rules.Code.{code}
use Rattle.cb_scan.specs.rules.Functions.{functions}
use Rattle.cb_scan.proofs.ScopeLemmas.{functions_ascend}
use Rattle.cb_scan.proofs.Together.{facts_are}
use Rattle.cb_scan.proofs.scanner.standard.facts_in.Goals as goal

-- each list is what was gathered, in order and with its scopes
pub returns : goal.returns
unfolding definitions_from
returns c =
    let text = c.args.text.now in
    let g = c.in_ok-gathered.ensures in
    let defs_are : c.in_ok-defs.defs.items ≡ definitions text =
    c.in_ok-defs.ensures ∙ (λ i. in_order def_key
    ((c.as_slice.ensures.value ∙ g.functions) i ++ (c.as_slice-2.ensures.value ∙ g.macros) i
    ++ (c.as_slice-3.ensures.value ∙ g.typedefs) i ++ (c.as_slice-4.ensures.value ∙ g.structures) i)) in
    c.in_ok-facts.ensures
    ∙ facts_are c.args.wanted text (functions (code text (pieces text))) (functions_ascend text) (definitions text) defs_are
    (c.as_slice-5.ensures.value ∙ g.function_ranges) (c.as_slice-6.ensures.value ∙ g.function_calls)
    g.names g.macro_ranges g.macro_calls g.includes
