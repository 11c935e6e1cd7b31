use Rattle.std.proofs.Common.{◌≡◌, ◌≤◌, ◌<◌, ◌-◌, ◌^◌, ◌∙◌, ap, arith, refl, subst, sym}
use Rattle.std.proofs.Common.{ℕ, Result}
use Rattle.std.specs.Option.{option_map}
use Rattle.cb_desk.specs.Desk.{CountsUpTo}
use Rattle.cb_desk.specs.Marks.{toggled_at}
use Rattle.cb_desk.specs.Models.{step_of}
use Rattle.cb_desk.specs.Stack.{pushed}
use Rattle.cb_desk.specs.Step.{after, place_of}
use Rattle.cb_desk.specs.steps.Plans.{IsPlan}
use Rattle.cb_desk.specs.steps.Records.{place_in, world_in}
use Rattle.cb_desk.proofs.Counted.{counted_none, counts_any}
use Rattle.cb_desk.proofs.PlacePlans.{ok_along}
use Rattle.cb_desk.proofs.present.Present.plan.Goals as goal

-- a change that brings no text counts nothing
counts_none : {A E : Type 0} → (r : Result A E) (m n : ℕ) → n ≡ m → n < 2 ^ 64
    → CountsUpTo 0 m m r
counts_none r m n read fits =
    let few : m ≤ 2 ^ 64 - 1 = omega (arith, read, fits) in
    counts_any r 0 m m few (sym (counted_none m few))

pub returns-in-Load-clause-plan : goal.returns-in-Load-clause-plan
returns-in-Load-clause-plan c = rw c.in-Load.is c.plan_to_load.ensures.plan

pub returns-in-Reload-clause-plan : goal.returns-in-Reload-clause-plan
returns-in-Reload-clause-plan c = rw c.in-Reload.is c.plan_to_reload.ensures.plan

pub returns-in-Mark-clause-plan : goal.returns-in-Mark-clause-plan
returns-in-Mark-clause-plan c =
    let k = c.args.self.now in
    let w = world_in k.archive k.now in
    let place = option_map (place_in k.archive) c.args.place in
    let marked : toggled_at w (place_of w (step_of c.args.change))
    ≡ after w (step_of c.args.change) = rw c.in-Mark.is refl in
    ok_along (λ p. IsPlan k p (toggled_at w place))
    (λ p. IsPlan k p (after w (step_of c.args.change))) c.plan_to_mark.result
    (λ p is. subst (IsPlan k p) (ap (toggled_at w) c.requires.place ∙ marked) is)
    c.plan_to_mark.ensures

pub returns-in-Replace-clause-plan : goal.returns-in-Replace-clause-plan
returns-in-Replace-clause-plan c = rw c.in-Replace.is c.plan_replace.ensures.plan

pub returns-in-Tag-clause-plan : goal.returns-in-Tag-clause-plan
returns-in-Tag-clause-plan c =
    let k = c.args.self.now in
    let w = world_in k.archive k.now in
    let place = option_map (place_in k.archive) c.args.place in
    let on_top : pushed w (place_of w (step_of c.args.change)) ≡ after w (step_of c.args.change) =
    rw c.in-Tag.is refl in
    ok_along (λ p. IsPlan k p (pushed w place)) (λ p. IsPlan k p (after w (step_of c.args.change)))
    c.plan_to_push.result
    (λ p is. subst (IsPlan k p) (ap (pushed w) c.requires.place ∙ on_top) is) c.plan_to_push.ensures

pub returns-in-Load-clause-meter : goal.returns-in-Load-clause-meter
returns-in-Load-clause-meter c = rw c.in-Load.is c.plan_to_load.ensures.meter

pub returns-in-Reload-clause-meter : goal.returns-in-Reload-clause-meter
returns-in-Reload-clause-meter c = rw c.in-Reload.is c.plan_to_reload.ensures.meter

pub returns-in-Replace-clause-meter : goal.returns-in-Replace-clause-meter
returns-in-Replace-clause-meter c = rw c.in-Replace.is c.plan_replace.ensures.meter

pub returns-in-Unload-clause-plan : goal.returns-in-Unload-clause-plan
returns-in-Unload-clause-plan c = rw c.in-Unload.is c.plan_to_unload.ensures

pub returns-in-Rename-clause-plan : goal.returns-in-Rename-clause-plan
returns-in-Rename-clause-plan c = rw c.in-Rename.is c.plan_to_rename.ensures

pub returns-in-Want-clause-plan : goal.returns-in-Want-clause-plan
returns-in-Want-clause-plan c = rw c.in-Want.is c.plan_want.ensures

pub returns-in-MarkAll-clause-plan : goal.returns-in-MarkAll-clause-plan
returns-in-MarkAll-clause-plan c = rw c.in-MarkAll.is c.plan_mark_all.ensures

pub returns-in-Pop-clause-plan : goal.returns-in-Pop-clause-plan
returns-in-Pop-clause-plan c = rw c.in-Pop.is c.plan_pop.ensures

pub returns-in-Unload-clause-meter : goal.returns-in-Unload-clause-meter
returns-in-Unload-clause-meter c =
    rw c.in-Unload.is (counts_none c.plan_to_unload.result c.args.meter.now _ c.read-counted.ensures
    c.read-counted.type_inv)

pub returns-in-Rename-clause-meter : goal.returns-in-Rename-clause-meter
returns-in-Rename-clause-meter c =
    rw c.in-Rename.is (counts_none c.plan_to_rename.result c.args.meter.now _ c.read-counted.ensures
    c.read-counted.type_inv)

pub returns-in-Want-clause-meter : goal.returns-in-Want-clause-meter
returns-in-Want-clause-meter c =
    rw c.in-Want.is (counts_none c.plan_want.result c.args.meter.now _ c.read-counted.ensures
    c.read-counted.type_inv)

pub returns-in-Mark-clause-meter : goal.returns-in-Mark-clause-meter
returns-in-Mark-clause-meter c =
    rw c.in-Mark.is (counts_none c.plan_to_mark.result c.args.meter.now _ c.read-counted.ensures
    c.read-counted.type_inv)

pub returns-in-MarkAll-clause-meter : goal.returns-in-MarkAll-clause-meter
returns-in-MarkAll-clause-meter c =
    rw c.in-MarkAll.is (counts_none c.plan_mark_all.result c.args.meter.now _ c.read-counted.ensures
    c.read-counted.type_inv)

pub returns-in-Tag-clause-meter : goal.returns-in-Tag-clause-meter
returns-in-Tag-clause-meter c =
    rw c.in-Tag.is (counts_none c.plan_to_push.result c.args.meter.now _ c.read-counted.ensures
    c.read-counted.type_inv)

pub returns-in-Pop-clause-meter : goal.returns-in-Pop-clause-meter
returns-in-Pop-clause-meter c =
    rw c.in-Pop.is (counts_none c.plan_pop.result c.args.meter.now _ c.read-counted.ensures
    c.read-counted.type_inv)

pub returns-in-Load-clause-one : goal.returns-in-Load-clause-one
returns-in-Load-clause-one c = rw c.in-Load.is c.plan_to_load.ensures.one
