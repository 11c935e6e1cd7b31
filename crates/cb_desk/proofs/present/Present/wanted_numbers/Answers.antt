use Rattle.std.proofs.Common.{rules, ◌≡◌, ◌∙◌, ◌<◌, ap, map, subst, sym, Some, IfOk}
use Rattle.std.specs.List.{AllByRecursion}
use Rattle.cb_desk.specs.declared.places.FileLine.{FileLine}
use Rattle.cb_desk.specs.Marks.{wanted_places}
use Rattle.cb_desk.specs.steps.Records.{held_numbers, place_in, world_in}
use Rattle.cb_desk.proofs.HeldRows.{wanted-held}
use Rattle.cb_desk.proofs.MarkPlans.{all_held_below, held_are}
use Rattle.cb_desk.proofs.PlacePlans.{ok_along}
use Rattle.cb_desk.proofs.present.Present.wanted_numbers.Goals as goal

pub returns-in-Some-clause-places : goal.returns-in-Some-clause-places
returns-in-Some-clause-places c =
    let k = c.args.self.now in
    let text = c.in-Some.text.items in
    let wanted : k.now.wanted ≡ Some text = search rules in
    let held : IfOk c.held_numbers.result
    (λ made. made.items ≡ held_numbers k.archive text k.now.shown) = search rules in
    ok_along (λ made. made.items ≡ held_numbers k.archive text k.now.shown)
    (λ made. map (place_in k.archive) made.items ≡ wanted_places (world_in k.archive k.now))
    c.held_numbers.result
    (λ made is. ap (map (place_in k.archive)) is ∙ held_are k.archive text k.now.shown
    ∙ sym (wanted-held (world_in k.archive k.now) text wanted c.requires.ascending)) held

pub returns-in-Some-clause-there : goal.returns-in-Some-clause-there
returns-in-Some-clause-there c =
    let k = c.args.self.now in
    let text = c.in-Some.text.items in
    let held : IfOk c.held_numbers.result
    (λ made. made.items ≡ held_numbers k.archive text k.now.shown) = search rules in
    ok_along (λ made. made.items ≡ held_numbers k.archive text k.now.shown)
    (λ made. AllByRecursion (λ (p : FileLine). p.name < k.now.names) made.items)
    c.held_numbers.result
    (λ made is. subst (AllByRecursion (λ (p : FileLine). p.name < k.now.names)) (sym is)
    (all_held_below k.archive text k.now.names k.now.versions k.now.shown
    c.requires.kept.there.shown)) held
