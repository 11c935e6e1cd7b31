-- What is left decides.
use Rattle.std.proofs.Common.{◌≡◌, length}
use Rattle.std.specs.List.{flat_map, list_any}
use Rattle.cb_macros.specs.Meeting.{rest_if, texts}
use Rattle.cb_macros.specs.steps.Meetings.{sought_in}
use Rattle.cb_macros.proofs.search.has_sought.Given as goal

abbrev pub invariant-rows : goal.invariant-rows
invariant-rows l =
    list_any (sought_in l.sought) (flat_map (rest_if l.desk.timeline.present) l.left)
    ≡ list_any (sought_in l.sought) (texts l.desk.timeline.present l.name)

abbrev pub decreases-rows : goal.decreases-rows
decreases-rows l = length l.left
