use Rattle.std.proofs.Common.{◌∙◌, sym, ap}
use Rattle.cb_desk.specs.Answer.{line_row}
use Rattle.cb_session.proofs.Shown.{line_row-empty, no-text-found, text-found}
use Rattle.cb_session.proofs.reply.place_row.Goals as goal

pub returns-in-None : goal.returns-in-None
returns-in-None c =
    let file = c.args.file.now in
    sym (ap (λ text. line_row file text c.args.line)
    (no-text-found c.args.desk.now.timeline.present.files file c.in-None.ensures)
    ∙ line_row-empty file c.args.line)

pub returns-in-Some : goal.returns-in-Some
returns-in-Some c =
    let file = c.args.file.now in
    c.line_row.ensures ∙ ap (λ text. line_row file text c.args.line)
    (text-found c.args.desk.now.timeline.present.files file c.in-Some.source.now c.in-Some.ensures)
