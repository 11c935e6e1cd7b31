use Rattle.std.proofs.Common.{rules}
use Rattle.cb_desk.proofs.FilePlans.{unload_planned}
use Rattle.cb_desk.proofs.present.Present.plan_unload.Goals as goal

pub returns : goal.returns
returns c =
    unload_planned c.args.self.now _ c.args.hides c.in_ok-marks.marks c.in_ok-frames.frames
    c.requires.kept (search rules) c.requires.among (search rules) (search rules) (search rules)
    (search rules)
    (search rules) (search rules)
