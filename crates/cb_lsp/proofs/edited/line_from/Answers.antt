use Rattle.std.proofs.Common.{◌∙◌, ◌+◌, ◌-◌, ap, sym}
use Rattle.cb_wire.specs.Positions.{line_start, shown_line}
use Rattle.cb_lsp.proofs.LineMarks.{shows-from, starts-from}
use Rattle.cb_lsp.proofs.edited.line_from.Goals as goal

pub returns-clause-start : goal.returns-clause-start
returns-clause-start c =
    let mark = c.args.mark in
    ap (λ k. mark.place + k) (c.line_at-start.ensures.start
    ∙ ap (λ l. line_start l (c.args.line - mark.feeds)) c.split_at.ensures.back)
    ∙ sym (starts-from c.args.text.now mark.place mark.feeds c.requires.mark c.args.line
    c.requires.before)

pub returns-clause-shown : goal.returns-clause-shown
returns-clause-shown c =
    let mark = c.args.mark in
    c.line_at-start.ensures.shown
    ∙ ap (λ l. shown_line l (c.args.line - mark.feeds)) c.split_at.ensures.back
    ∙ sym (shows-from c.args.text.now mark.place mark.feeds c.requires.mark c.args.line
    c.requires.before)
