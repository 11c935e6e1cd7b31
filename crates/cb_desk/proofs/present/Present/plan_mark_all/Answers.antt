use Rattle.std.proofs.Common.{rules, ◌≡◌, ap, map, subst, None}
use Rattle.cb_desk.specs.Marks.{all_marked, wanted_places}
use Rattle.cb_desk.specs.steps.Plans.{IsPlan, with_marks}
use Rattle.cb_desk.specs.steps.Records.{place_in, world_in}
use Rattle.cb_desk.proofs.PlacePlans.{ok_along}
use Rattle.cb_desk.proofs.present.Present.plan_mark_all.Goals as goal

pub returns : goal.returns
returns c =
    let k = c.args.self.now in
    let places : map (place_in k.archive) c.as_slice.result.now
    ≡ wanted_places (world_in k.archive k.now) = search rules in
    let world : with_marks k.archive k.now None c.as_slice.result.now
    ≡ all_marked (world_in k.archive k.now) =
    ap (λ xs. record (world_in k.archive k.now) { marks = xs }) places in
    ok_along (λ p. IsPlan k p (with_marks k.archive k.now None c.as_slice.result.now))
    (λ p. IsPlan k p (all_marked (world_in k.archive k.now)))
    c.plan_marks.result (λ p is. subst (IsPlan k p) world is) (search rules)
