-- What is left decides.
use Rattle.std.proofs.Common.{◌≡◌, map}
use Rattle.std.specs.Prelude.{drop}
use Rattle.std.specs.List.{flat_map}
use Rattle.cb_macros.specs.Meeting.{meet_all, named_by, round}
use Rattle.cb_macros.specs.steps.Meetings.{met_of, seen_of}
use Rattle.cb_macros.proofs.search.round.Given as goal

abbrev pub invariant-loop-i : goal.invariant-loop-i
invariant-loop-i l =
    meet_all l.desk.timeline.present (seen_of l.next)
    (flat_map (named_by l.desk.timeline.present) (map met_of (drop l.i l.fresh.items)))
    ≡ round l.desk.timeline.present (seen_of l.fn.seen)
