use Rattle.std.proofs.Common.{rules, ◌≡◌, subst, Some}
use Rattle.cb_index.specs.Archived.{name_of}
use Rattle.cb_index.specs.Files.{file_of, files_of}
use Rattle.cb_desk.specs.Files.{unloaded}
use Rattle.cb_desk.specs.steps.Plans.{IsPlan}
use Rattle.cb_desk.specs.steps.Records.{world_in}
use Rattle.cb_desk.specs.steps.Named.{file_named}
use Rattle.cb_desk.proofs.PlacePlans.{ok_along}
use Rattle.cb_desk.proofs.TagPlans.{has_that_name}
use Rattle.cb_desk.proofs.present.Present.plan_to_unload.Goals as goal

pub returns : goal.returns
returns c =
    let k = c.args.self.now in
    let w = world_in k.archive k.now in
    let files = files_of k.archive k.now.shown in
    let name = c.args.name.now in
    let hides = c.in-Some.hides in
    let found : Some (file_of k.archive hides) ≡ file_named files name = search rules in
    let named : name_of k.archive hides.name ≡ name =
    has_that_name (file_of k.archive hides) files name found in
    ok_along (λ p. IsPlan k p (unloaded w (name_of k.archive hides.name)))
    (λ p. IsPlan k p (unloaded w name)) c.plan_unload.result
    (λ p is. subst (λ n. IsPlan k p (unloaded w n)) named is) c.plan_unload.ensures
