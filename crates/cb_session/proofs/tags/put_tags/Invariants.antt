use Rattle.cb_desk.specs.Tags.{tag_line}
use Rattle.cb_session.proofs.Puts.{Written}
use Rattle.cb_session.proofs.tags.put_tags.Given as goal

abbrev pub invariant-loop-row : goal.invariant-loop-row
invariant-loop-row g l = Written (tag_line l.format) l.fn.out l.out l.row-iterator l.fn.rows
