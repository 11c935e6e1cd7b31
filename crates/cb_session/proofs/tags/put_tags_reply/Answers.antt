use Rattle.std.proofs.Common.{sym}
use Rattle.cb_session.proofs.Puts.{Puts-after, Puts-unfinished}
use Rattle.cb_session.proofs.tags.put_tags_reply.Goals as goal

pub returns-in_err-put_count : goal.returns-in_err-put_count
returns-in_err-put_count g c =
    let k = c.in_err-put_count.ensures in
    rw (sym c.len.ensures, sym c.head_count.ensures)
    (Puts-unfinished _ _ _ _ _ _ c.from_residual.ensures.1 k.1 k.0)

pub returns : goal.returns
returns g c =
    rw (sym c.len.ensures, sym c.head_count.ensures)
    (Puts-after _ _ _ _ _ _ c.in_ok-put_count.ensures.0 c.put_tags_file.ensures)
