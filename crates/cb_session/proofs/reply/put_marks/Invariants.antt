use Rattle.std.proofs.Common.{length}
use Rattle.cb_desk.specs.World.{Place}
use Rattle.cb_session.specs.Output.{count_line, row_line}
use Rattle.cb_session.specs.Places.{place_row}
use Rattle.cb_session.proofs.Puts.{WrittenAfter}
use Rattle.cb_session.proofs.reply.put_marks.Given as goal

abbrev pub invariant-loop-file : goal.invariant-loop-file
invariant-loop-file g l =
    let w = l.fn.desk.timeline.present in WrittenAfter (count_line (length w.marks))
    (λ (p : Place). row_line (place_row w.files p)) l.fn.out l.out l.file-iterator w.marks
