use Rattle.std.proofs.Common.{rules, ◌≡◌, ◌∙◌, ◌-◌, ap, length, take, subst, None}
use Rattle.cb_desk.specs.Stack.{popped}
use Rattle.cb_desk.specs.steps.Edits.{edited}
use Rattle.cb_desk.specs.steps.Plans.{IsPlan, with_places}
use Rattle.cb_desk.specs.steps.Records.{world_in}
use Rattle.cb_desk.proofs.PlacePlans.{ok_along, popped_world}
use Rattle.cb_desk.proofs.present.Present.plan_pop.Goals as goal

pub returns : goal.returns
returns c =
    let k = c.args.self.now in
    let edits = c.in_ok-frames.frames in
    let frames : edited edits k.now.frames ≡ take (length k.now.frames - 1) k.now.frames =
    search rules in
    let world : with_places k.archive k.now None c.none.result edits
    ≡ popped (world_in k.archive k.now) =
    ap (λ marks. with_places k.archive k.now None marks edits) c.none.ensures
    ∙ popped_world k.archive k.now edits frames in
    ok_along (λ p. IsPlan k p (with_places k.archive k.now None c.none.result edits))
    (λ p. IsPlan k p (popped (world_in k.archive k.now)))
    c.plan_places.result (λ p is. subst (IsPlan k p) world is) (search rules)
