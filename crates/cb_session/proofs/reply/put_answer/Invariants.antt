use Rattle.cb_session.specs.Output.{row_line}
use Rattle.cb_session.proofs.Puts.{Written}
use Rattle.cb_session.proofs.reply.put_answer.Given as goal

abbrev pub invariant-loop-row : goal.invariant-loop-row
invariant-loop-row g l = Written row_line l.fn.out l.out l.row-iterator l.fn.rows
