use Rattle.std.proofs.Common.{◌∙◌, ap, subst, sym}
use Rattle.std.specs.List.{AllByRecursion}
use Rattle.cb_scan.specs.CodeTokens.{code_of}
use Rattle.cb_names.specs.Functions.{IsItemOf, items}
use Rattle.cb_names.specs.HardAttributes.{without_hard}
use Rattle.cb_names.proofs.LabelLemmas.{all_items, all_kept_of}
use Rattle.cb_names.proofs.code.Code.spaced_names.Goals as goal

pub spaced_in-requires-clause-within : goal.spaced_in-requires-clause-within
spaced_in-requires-clause-within c =
    let text = c.self.inside.source.now in
    subst (λ t. AllByRecursion (IsItemOf t) c.as_slice-2.result.now) (sym c.bytes.ensures.value)
    (subst (AllByRecursion (IsItemOf text))
    (sym (c.as_slice-2.ensures.value ∙ c.in_ok-kept.ensures.value
    ∙ ap without_hard (c.as_slice.ensures.value ∙ c.self.invariant.items)))
    (all_kept_of text (items text) (all_items text (code_of text) c.self.invariant.within)))
