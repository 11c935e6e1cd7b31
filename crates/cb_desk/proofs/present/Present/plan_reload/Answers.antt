use Rattle.std.proofs.Common.{rules}
use Rattle.cb_desk.proofs.FilePlans.{reload_planned}
use Rattle.cb_desk.proofs.present.Present.plan_reload.Goals as goal

pub returns : goal.returns
returns c =
    reload_planned c.args.self.now _ c.args.file c.args.version.bytes c.in_ok-marks.marks
    c.in_ok-frames.frames
    c.requires.kept (search rules) c.requires.among (search rules) (search rules)
    (search rules) c.in_ok-versions.versions
    (search rules) (search rules) (search rules) (search rules)
