use Rattle.std.proofs.Common.{◌≡◌, ◌∙◌, List, [], None, Some, ap, subst, sym}
use Rattle.std.specs.Option.{option_map_or}
use Rattle.std.specs.Prelude.{MatchOption}
use Rattle.cb_scan.specs.declared.rules.scope.Range.{Range}
use Rattle.cb_names.specs.Functions.{before, body_of, function_at, items, own_items}
use Rattle.cb_names.specs.Visible.{visible_in}
use Rattle.cb_names.specs.declared.word.Item.{Item}
use Rattle.cb_names.proofs.code.Code.visible_names.Goals as goal

pub returns-in-Ok : goal.returns-in-Ok
returns-in-Ok c =
    let text = c.args.self.now in
    let place = c.args.place in
    let r = c.in-Some.function.range in
    let there = subst (λ o. MatchOption o (function_at text place ≡ None)
    (λ f. (function_at text place ≡ Some f.range) × (f.items.items ≡ own_items (items text) f.range)))
    c.in-Some.is c.in_ok-function.ensures.value in
    c.in-Ok.ensures
    ∙ ap (λ (xs : List Item). visible_in xs (before r.name.start xs) (body_of xs r) (before place xs)) there.1
    ∙ sym (ap (λ o. option_map_or (λ (r : Range). let xs = own_items (items text) r in
    visible_in xs (before r.name.start xs) (body_of xs r) (before place xs)) o []) there.0)
