use Rattle.std.proofs.Common.{rules, ◌≡◌, ◌∙◌, ap, subst, Some}
use Rattle.cb_index.specs.Archived.{name_of}
use Rattle.cb_index.specs.Files.{file_of, files_of}
use Rattle.cb_desk.specs.Files.{reloaded}
use Rattle.cb_desk.specs.steps.Plans.{IsPlan}
use Rattle.cb_desk.specs.steps.Records.{world_in}
use Rattle.cb_desk.specs.steps.Named.{file_named}
use Rattle.cb_desk.proofs.PlacePlans.{ok_along}
use Rattle.cb_desk.proofs.StepsValid.{reload-fits}
use Rattle.cb_desk.proofs.TagPlans.{has_that_name}
use Rattle.cb_desk.proofs.present.Present.plan_to_reload.Goals as goal

-- an accepted text is a source
pub scanned-requires : goal.scanned-requires
scanned-requires c =
    reload-fits (world_in c.args.self.now.archive c.args.self.now.now) c.args.name.now
    c.args.bytes.items c.requires.valid c.requires.accepted

pub returns-clause-plan : goal.returns-clause-plan
returns-clause-plan c =
    let k = c.args.self.now in
    let w = world_in k.archive k.now in
    let files = files_of k.archive k.now.shown in
    let name = c.args.name.now in
    let shown = c.in-Some.shown in
    let version = c.in_ok-version.version.bytes in
    let found : Some (file_of k.archive shown) ≡ file_named files name = search rules in
    let named : name_of k.archive shown.name ≡ name =
    has_that_name (file_of k.archive shown) files name found in
    let world : reloaded w (name_of k.archive shown.name) version
    ≡ reloaded w name c.args.bytes.items =
    ap (λ n. reloaded w n version) named ∙ ap (reloaded w name) c.in_ok-version.ensures.value in
    ok_along (λ p. IsPlan k p (reloaded w (name_of k.archive shown.name) version))
    (λ p. IsPlan k p (reloaded w name c.args.bytes.items)) c.plan_reload.result
    (λ p is. subst (IsPlan k p) world is) c.plan_reload.ensures
