use Rattle.std.proofs.Common.{◌∙◌, ap, subst, sym}
use Rattle.std.specs.List.{AllByRecursion, flat_map}
use Rattle.cb_scan.specs.CodeTokens.{code_of}
use Rattle.cb_names.specs.Functions.{IsItemOf}
use Rattle.cb_names.specs.OwnNames.{own_names, own_of}
use Rattle.cb_names.proofs.LabelLemmas.{all_items}
use Rattle.cb_names.proofs.code.Code.own_names.Goals as goal

pub own_in-requires-clause-within : goal.own_in-requires-clause-within
own_in-requires-clause-within c =
    let text = c.self.inside.source.now in
    subst (λ t. AllByRecursion (IsItemOf t) c.as_slice.result.now) (sym c.bytes-text.ensures.value)
    (subst (AllByRecursion (IsItemOf text))
    (sym (c.as_slice.ensures.value ∙ c.self.invariant.items))
    (all_items text (code_of text) c.self.invariant.within))

pub returns-in-Ok : goal.returns-in-Ok
returns-in-Ok c =
    let name = c.args.name.now in
    let items_are = c.as_slice.ensures.value ∙ c.self.invariant.items in
    let ranges_are = c.as_slice-2.ensures.value ∙ c.self.invariant.ranges in
    c.in-Ok.ensures
    ∙ (λ i. flat_map (own_of (c.bytes-text.ensures.value i) (items_are i) name) (ranges_are i))
    ∙ ap (λ t. own_names t name) c.self.view_is
