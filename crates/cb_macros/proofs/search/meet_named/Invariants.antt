-- What is left decides.
use Rattle.std.proofs.Common.{◌≡◌, length}
use Rattle.std.specs.List.{flat_map}
use Rattle.cb_macros.specs.Meeting.{meet_all, met_by, named_by, rest_if}
use Rattle.cb_macros.specs.steps.Meetings.{met_of, seen_of}
use Rattle.cb_macros.proofs.search.meet_named.Given as goal

abbrev pub invariant-rows : goal.invariant-rows
invariant-rows l =
    meet_all l.desk.timeline.present (seen_of l.seen)
    (met_by l.met.through.now (flat_map (rest_if l.desk.timeline.present) l.left))
    ≡ meet_all l.desk.timeline.present (seen_of l.fn.seen)
    (named_by l.desk.timeline.present (met_of l.met))

abbrev pub decreases-rows : goal.decreases-rows
decreases-rows l = length l.left
