use Rattle.std.proofs.Common.{◌∙◌, ap, subst, sym}
use Rattle.std.specs.List.{AllByRecursion}
use Rattle.std.specs.Prelude.{find, nat_le}
use Rattle.cb_scan.specs.CodeTokens.{code_of}
use Rattle.cb_scan.specs.declared.rules.scope.Range.{Range}
use Rattle.cb_names.specs.Functions.{IsItemOf, function_at, items, own_items}
use Rattle.cb_names.proofs.LabelLemmas.{all_own}
use Rattle.cb_names.proofs.code.Code.function_at.Goals as goal

pub returns-clause-value : goal.returns-clause-value
returns-clause-value c =
    let place = c.args.place in
    let range = c.in-Some.range in (
      sym (sym c.in-Some.is ∙ c.function_among.ensures
          ∙ ap (find (λ (r : Range). nat_le place r.end))
          (c.as_slice.ensures.value ∙ c.self.invariant.ranges)
          ∙ ap (λ t. function_at t place) c.self.view_is),
      c.in_ok-items.ensures.value
          ∙ ap (λ l. own_items l range)
          (c.as_slice-2.ensures.value ∙ c.self.invariant.items ∙ ap items c.self.view_is),
    )

pub returns-clause-within : goal.returns-clause-within
returns-clause-within c =
    let text = c.self.inside.source.now in
    let range = c.in-Some.range in
    let found = c.in_ok-items.items.items in
    subst (λ t. AllByRecursion (IsItemOf t) found) c.self.view_is
    (subst (AllByRecursion (IsItemOf text))
    (sym (c.in_ok-items.ensures.value
    ∙ ap (λ l. own_items l range) (c.as_slice-2.ensures.value ∙ c.self.invariant.items)))
    (all_own text (code_of text) range c.self.invariant.within))
