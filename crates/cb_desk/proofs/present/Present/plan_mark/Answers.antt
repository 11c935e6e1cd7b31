use Rattle.std.proofs.Common.{rules, ◌≡◌, ◌∙◌, ap, ◌<◌, subst, sym, None, Some}
use Rattle.std.specs.List.{AllByRecursion}
use Rattle.cb_desk.specs.declared.places.FileLine.{FileLine}
use Rattle.cb_desk.specs.Marks.{toggled_at}
use Rattle.cb_desk.specs.steps.Plans.{IsPlan, with_marks}
use Rattle.cb_desk.specs.steps.Records.{place_in, toggled_numbers, world_in}
use Rattle.cb_desk.proofs.MarkPlans.{toggled_below, toggled_places}
use Rattle.cb_desk.proofs.PlacePlans.{ok_along}
use Rattle.cb_desk.proofs.present.Present.plan_mark.Goals as goal

pub plan_marks-requires-clause-there : goal.plan_marks-requires-clause-there
plan_marks-requires-clause-there c =
    let k = c.args.self.now in
    let marks : c.as_slice-2.result.now ≡ toggled_numbers k.archive c.args.place k.now.marks =
    search rules in
    subst (AllByRecursion (λ (p : FileLine). p.name < k.now.names)) (sym marks)
    (toggled_below k.archive k.now.names c.args.place k.now.marks c.requires.there
    c.requires.kept.there.marks)

pub returns : goal.returns
returns c =
    let k = c.args.self.now in
    let marks : c.as_slice-2.result.now ≡ toggled_numbers k.archive c.args.place k.now.marks =
    search rules in
    let world : with_marks k.archive k.now None c.as_slice-2.result.now
    ≡ toggled_at (world_in k.archive k.now) (Some (place_in k.archive c.args.place)) =
    ap (with_marks k.archive k.now None) marks ∙ ap (λ xs. record (world_in k.archive k.now)
    { marks = xs }) (toggled_places k.archive c.args.place k.now.marks) in
    ok_along (λ p. IsPlan k p (with_marks k.archive k.now None c.as_slice-2.result.now))
    (λ p.
    IsPlan k p (toggled_at (world_in k.archive k.now) (Some (place_in k.archive c.args.place))))
    c.plan_marks.result (λ p is. subst (IsPlan k p) world is) (search rules)
