-- What is left decides.
use Rattle.std.proofs.Common.{◌≡◌, map}
use Rattle.std.specs.Prelude.{drop}
use Rattle.cb_macros.specs.Meeting.{has_met}
use Rattle.cb_macros.specs.steps.Meetings.{met_of}
use Rattle.cb_macros.proofs.met.has_met.Given as goal

abbrev pub invariant-loop-i : goal.invariant-loop-i
invariant-loop-i l = has_met (map met_of (drop l.i l.all)) l.name ≡ has_met (map met_of l.all) l.name
