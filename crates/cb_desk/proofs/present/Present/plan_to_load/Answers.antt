use Rattle.std.proofs.Common.{subst}
use Rattle.cb_desk.specs.Files.{loaded}
use Rattle.cb_desk.specs.steps.Plans.{IsPlan}
use Rattle.cb_desk.specs.steps.Records.{world_in}
use Rattle.cb_desk.proofs.PlacePlans.{ok_along}
use Rattle.cb_desk.proofs.StepsValid.{load-fits}
use Rattle.cb_desk.proofs.present.Present.plan_to_load.Goals as goal

-- an accepted text is a source
pub scanned-requires : goal.scanned-requires
scanned-requires c =
    load-fits (world_in c.args.self.now.archive c.args.self.now.now) c.args.name.now
    c.args.bytes.items c.requires.valid c.requires.accepted

pub returns-clause-plan : goal.returns-clause-plan
returns-clause-plan c =
    let k = c.args.self.now in
    let name = c.args.name.now in
    let w = world_in k.archive k.now in
    ok_along (λ p. IsPlan k p (loaded w name c.in_ok-version.version.bytes))
    (λ p. IsPlan k p (loaded w name c.args.bytes.items)) c.plan_load.result
    (λ p is. subst (λ text. IsPlan k p (loaded w name text)) c.in_ok-version.ensures.value is)
    c.plan_load.ensures.plan
