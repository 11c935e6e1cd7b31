use Rattle.std.proofs.Common.{◌≡◌, ◌∙◌, ◌++◌, ap}
use Rattle.cb_scan.specs.Order.{def_key, in_order}
use Rattle.cb_scan.specs.Profiles.{definitions_by, wanted_of}
use Rattle.cb_scan.specs.rules.wide.Kinds.{functions_of}
use Rattle.cb_scan.specs.steps.Cut.{pieces}
use Rattle.cb_scan.specs.steps.wide.Gathering.{rules_with, staying}
use Rattle.cb_scan.specs.steps.wide.Lists.{Lists}
use Rattle.cb_scan.proofs.Together.{facts_are}
use Rattle.cb_scan.proofs.WideAscend.{by_rules, wide_ranges_ascend}
use Rattle.cb_scan.proofs.WideStaying.{staying_are}
use Rattle.cb_scan.proofs.scanner.wide.facts_in.Goals as goal

-- each list is what was gathered, in order, without parameters and with its scopes
pub returns : goal.returns
returns c =
    let text = c.args.text.now in
    let b = c.args.prototypes in
    let g = c.in_ok-gathered.ensures in
    let found = c.found.view_is in
    let functions_are = c.as_slice.ensures.value ∙ ap (λ (l : Lists). l.functions) found ∙ g.functions in
    let objects_are = c.as_slice-4.ensures.value ∙ ap (λ (l : Lists). l.objects) found ∙ g.objects in
    let defs_are_found = c.as_slice-3.ensures.value ∙ ap (λ (l : Lists). l.defs) found in
    let in_found = ap (λ (l : Lists). l.ranges) found ∙ g.ranges in
    let all_is = c.in_ok-all.ensures ∙ (λ i. in_order def_key
    (functions_are i ++ (c.as_slice-2.ensures.value ∙ g.macros) i ++ defs_are_found i ++ objects_are i)) in
    let defs_are : c.in_ok-defs.defs.items ≡ definitions_by (rules_with b) text (pieces text) =
    c.in_ok-defs.ensures
    ∙ (λ i. staying b ((c.as_slice-5.ensures.value ∙ in_found) i) ((c.as_slice-6.ensures.value ∙ all_is) i))
    ∙ staying_are text (pieces text) b c.in_ok-gathered.gathered.found.defs g.defs
    (wide_ranges_ascend text) in
    c.in_ok-facts.ensures
    ∙ facts_are c.args.wanted text (functions_of text (pieces text)) (wide_ranges_ascend text)
    (definitions_by (rules_with b) text (pieces text)) defs_are
    (c.as_slice-7.ensures.value ∙ in_found) (c.as_slice-8.ensures.value ∙ g.calls)
    g.names g.macro_ranges g.macro_calls g.includes
    ∙ ap (wanted_of c.args.wanted) (by_rules text b)
