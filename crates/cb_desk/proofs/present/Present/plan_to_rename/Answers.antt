use Rattle.std.proofs.Common.{rules, ◌≡◌, subst, Some}
use Rattle.cb_index.specs.Archived.{name_of}
use Rattle.cb_index.specs.Files.{file_of, files_of}
use Rattle.cb_desk.specs.Files.{renamed}
use Rattle.cb_desk.specs.steps.Plans.{IsPlan}
use Rattle.cb_desk.specs.steps.Records.{world_in}
use Rattle.cb_desk.specs.steps.Named.{file_named}
use Rattle.cb_desk.proofs.PlacePlans.{ok_along}
use Rattle.cb_desk.proofs.TagPlans.{has_that_name}
use Rattle.cb_desk.proofs.present.Present.plan_to_rename.Goals as goal

pub returns : goal.returns
returns c =
    let k = c.args.self.now in
    let w = world_in k.archive k.now in
    let files = files_of k.archive k.now.shown in
    let old = c.args.old.now in
    let new = c.args.new.now in
    let shown = c.in-Some.shown in
    let found : Some (file_of k.archive shown) ≡ file_named files old = search rules in
    let named : name_of k.archive shown.name ≡ old =
    has_that_name (file_of k.archive shown) files old found in
    ok_along (λ p. IsPlan k p (renamed w (name_of k.archive shown.name) new))
    (λ p. IsPlan k p (renamed w old new)) c.plan_rename.result
    (λ p is. subst (λ n. IsPlan k p (renamed w n new)) named is) c.plan_rename.ensures
