use Rattle.std.proofs.Common.{length}
use Rattle.cb_session.proofs.Shown.{Shown}
use Rattle.cb_session.proofs.reply.put_frames.Given as goal

abbrev pub invariant-loop-file : goal.invariant-loop-file
invariant-loop-file g l = Shown l.fn.desk.timeline.present l.fn.out l.frames l.out

abbrev pub decreases-loop-file : goal.decreases-loop-file
decreases-loop-file g l = length l.frames
