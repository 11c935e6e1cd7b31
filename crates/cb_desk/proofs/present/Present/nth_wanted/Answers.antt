use Rattle.std.proofs.Common.{rules, ◌≡◌, ◌∙◌, ◌<◌, ap, subst, sym, Some}
use Rattle.std.specs.Bool.{⊤}
use Rattle.std.specs.Option.{MatchOption, option_map}
use Rattle.cb_desk.specs.declared.places.FileLine.{FileLine}
use Rattle.cb_desk.specs.Places.{nth}
use Rattle.cb_desk.specs.steps.Records.{held_numbers, place_in, world_in}
use Rattle.cb_desk.proofs.HeldRows.{wanted-held}
use Rattle.cb_desk.proofs.MarkPlans.{all_held_below, held_are, nth_below, nth_place_in}
use Rattle.cb_desk.proofs.present.Present.nth_wanted.Goals as goal

pub returns-clause-place : goal.returns-clause-place
returns-clause-place c =
    let k = c.args.self.now in
    let text = c.as_slice.result.now in
    let wanted : k.now.wanted ≡ Some text = search rules in
    let found : c.nth_held.result ≡ nth c.args.n (held_numbers k.archive text k.now.shown) =
    search rules in
    ap (option_map (place_in k.archive)) found
    ∙ nth_place_in k.archive c.args.n (held_numbers k.archive text k.now.shown)
    ∙ ap (nth c.args.n) (held_are k.archive text k.now.shown
    ∙ sym (wanted-held (world_in k.archive k.now) text wanted c.requires.ascending))

pub returns-clause-there : goal.returns-clause-there
returns-clause-there c =
    let k = c.args.self.now in
    let text = c.as_slice.result.now in
    let found : c.nth_held.result ≡ nth c.args.n (held_numbers k.archive text k.now.shown) =
    search rules in
    subst (λ r. MatchOption r ⊤ (λ (p : FileLine). p.name < k.now.names)) (sym found)
    (nth_below k.now.names c.args.n (held_numbers k.archive text k.now.shown)
    (all_held_below k.archive text k.now.names k.now.versions k.now.shown
    c.requires.kept.there.shown))
