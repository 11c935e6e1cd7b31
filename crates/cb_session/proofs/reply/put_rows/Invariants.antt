use Rattle.std.proofs.Common.{◌≡◌, ◌+◌, length}
use Rattle.cb_session.specs.Output.{count_line, row_line}
use Rattle.cb_session.proofs.Puts.{WrittenAfter}
use Rattle.cb_session.proofs.reply.put_rows.Given as goal

abbrev pub invariant-rows : goal.invariant-rows
invariant-rows g l = record {
  wrote : WrittenAfter (count_line (length l.fn.rows)) row_line l.fn.out l.out l.left l.fn.rows;
  left : l._row + length l.left ≡ length l.fn.rows;
}
