use Rattle.std.proofs.Common.{◌∙◌, sym, ap, length}
use Rattle.cb_session.proofs.Shown.{stack_rows-length}
use Rattle.cb_session.proofs.Puts.{Puts-unfinished, Puts-after}
use Rattle.cb_session.proofs.reply.put_stack.Goals as goal

pub returns-in_err-put_count : goal.returns-in_err-put_count
returns-in_err-put_count g c =
    let k = c.in_err-put_count.ensures in
    let count =
    c.len.ensures ∙ ap length c.frames.ensures
    ∙ sym (stack_rows-length c.args.desk.now.timeline.present) in
    rw (← count)
    (Puts-unfinished _ _ _ _ _ _ c.from_residual.ensures.1 k.1 k.0)

pub returns : goal.returns
returns g c =
    let count =
    c.len.ensures ∙ ap length c.frames.ensures
    ∙ sym (stack_rows-length c.args.desk.now.timeline.present) in
    rw (← count)
    (Puts-after _ _ _ _ _ _ c.in_ok-put_count.ensures.0 c.put_frames.ensures)
