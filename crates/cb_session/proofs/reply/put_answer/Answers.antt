use Rattle.cb_desk.specs.Models.{row_of}
use Rattle.cb_session.specs.Output.{row_line}
use Rattle.cb_session.proofs.Puts.{Written-all, Written-fault, Written-more}
use Rattle.cb_session.proofs.reply.put_answer.Goals as goal

pub returns-in_err-put_row : goal.returns-in_err-put_row
returns-in_err-put_row g c =
    let k = c.in_err-put_row.ensures in
    Written-fault row_line _ _ _ _ _ _ (row_of c.in-Some.row) _ _ c.loop-row.invariant
    c.in-Some.ensures.steps c.from_residual.ensures.1 k.1 k.0

pub loop-row-preserved : goal.loop-row-preserved
loop-row-preserved g c =
    Written-more row_line _ _ _ _ _ _ (row_of c.in-Some.row) c.loop-row.invariant
    c.in-Some.ensures.steps c.in_ok-put_row.ensures.0

pub returns : goal.returns
returns g c = (Written-all row_line _ _ _ _ c.loop-row.invariant c.in-None.ensures.steps.0, tt)
