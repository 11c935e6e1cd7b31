use Rattle.std.specs.Option.{option_copied}
use Rattle.cb_lsp.proofs.Opened.{open-done, open-refused, open-unheld}
use Rattle.cb_lsp.proofs.workspace.Workspace.open.Goals as goal

pub returns-in-Err : goal.returns-in-Err
returns-in-Err c =
    open-unheld c.self.inside.desk.timeline.present c.self.inside.documents c.open.new.self
    c.args.self.now c.args.name.now c.args.text.now c.text.result.now c.self.view_is
    c.in-Err.ensures.err c.in-Err.ensures.only c.text.ensures

pub returns-in-Ok-load : goal.returns-in-Ok-load
returns-in-Ok-load c =
    let done = c.in-Ok-load.ensures in
    open-done done.0 c.self.inside.desk.timeline.present c.self-2.inside.desk.timeline.present
    c.self.inside.documents c.open.new.self c.self-2.inside.documents c.note.new.self
    c.args.self.now c.load.new.self c.args.name.now c.args.text.now c.self.view_is
    c.self-2.view_is c.in-Ok.ensures.ok done.1 c.note.ensures.documents

pub returns-in-Err-load : goal.returns-in-Err-load
returns-in-Err-load c =
    let refused = c.in-Err-load.ensures in
    open-refused refused.0 c.self.inside.desk.timeline.present
    c.self-2.inside.desk.timeline.present c.self.inside.documents c.open.new.self
    c.self-2.inside.documents c.note-was_lost.new.self c.args.self.now c.load.new.self
    c.args.name.now c.args.text.now c.text-in-Err-load.result.now c.in-Err-load.refusal
    c.note-was_lost.result (option_copied c.told_unless.result) c.self.view_is c.self-2.view_is
    c.in-Ok.ensures.ok refused.1 c.note-was_lost.ensures.documents c.note-was_lost.ensures.was
    c.text-in-Err-load.ensures c.told_unless.ensures
