use Rattle.std.proofs.Common.{rules}
use Rattle.cb_desk.proofs.FilePlans.{rename_planned}
use Rattle.cb_desk.proofs.present.Present.plan_rename.Goals as goal

pub returns : goal.returns
returns c =
    rename_planned c.args.self.now _ c.args.old c.args.new.now c.in_ok-marks.marks
    c.in_ok-frames.frames
    c.requires.kept (search rules) c.requires.among c.requires.fresh (search rules) (search rules)
    (search rules) c.in_ok-names.names
    (search rules) (search rules) (search rules) (search rules)
