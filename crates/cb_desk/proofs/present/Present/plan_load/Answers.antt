use Rattle.std.proofs.Common.{rules}
use Rattle.cb_desk.proofs.FilePlans.{load_planned}
use Rattle.cb_desk.proofs.present.Present.plan_load.Goals as goal

pub returns-clause-plan : goal.returns-clause-plan
returns-clause-plan c =
    load_planned c.args.self.now _ c.args.name.now c.args.version.bytes
    c.requires.kept (search rules) c.requires.fresh (search rules) (search rules) (search rules)
    c.in_ok-names.names c.in_ok-versions.versions (search rules) (search rules) (search rules)
