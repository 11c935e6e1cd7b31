-- What is left decides.
use Rattle.std.proofs.Common.{◌≡◌}
use Rattle.std.specs.Prelude.{◌-◌}
use Rattle.cb_macros.specs.Meeting.{rounds}
use Rattle.cb_macros.specs.steps.Meetings.{seen_of}
use Rattle.cb_macros.proofs.search.rounds.Given as goal

abbrev pub invariant-loop-i : goal.invariant-loop-i
invariant-loop-i l =
    rounds l.desk.timeline.present (16 - l.i) (seen_of l.seen)
    ≡ rounds l.desk.timeline.present 16 (seen_of l.fn.seen)
