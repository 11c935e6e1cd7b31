use Rattle.std.proofs.Common.{subst}
use Rattle.cb_desk.specs.Models.{place_at}
use Rattle.cb_tags.specs.Writing.{PutsAll, PutsPrefix}
use Rattle.cb_session.specs.Output.{row_line}
use Rattle.cb_session.proofs.Shown.{Shown-more, Shown-fault}
use Rattle.cb_session.proofs.reply.put_frames.Goals as goal

pub loop-file-preserved : goal.loop-file-preserved
loop-file-preserved g c =
    let k = c.in_ok-put_row.ensures in
    Shown-more _ _ _ _ _ _ (place_at (c.in-Some.file, c.in-Some.line)) c.loop-file.invariant
    c.in-Some.ensures.steps
    (subst (λ row. PutsAll c.loop-file.out c.put_row.new.out (row_line row))
    c.place_row.ensures k.0)

pub returns-in_err-put_row : goal.returns-in_err-put_row
returns-in_err-put_row g c =
    let k = c.in_err-put_row.ensures in
    Shown-fault _ _ _ _ _ _ (place_at (c.in-Some.file, c.in-Some.line)) _ _ c.loop-file.invariant
    c.in-Some.ensures.steps c.from_residual.ensures.1 k.1
    (subst (λ row. PutsPrefix c.loop-file.out c.put_row.new.out (row_line row))
    c.place_row.ensures k.0)
