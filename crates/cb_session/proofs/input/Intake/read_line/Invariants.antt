use Rattle.cb_session.proofs.Streams.{Seen}
use Rattle.cb_session.proofs.input.Intake.read_line.Given as goal

abbrev pub invariant-bytes : goal.invariant-bytes
invariant-bytes g l = Seen l.fn.feed l.feed l.self.line.items l.read
