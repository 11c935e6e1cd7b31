-- What is left decides.
use Rattle.std.proofs.Common.{◌≡◌, map}
use Rattle.std.specs.Prelude.{drop, find}
use Rattle.std.specs.List.{list_any}
use Rattle.cb_macros.specs.Meeting.{Met, texts}
use Rattle.cb_macros.specs.steps.Meetings.{met_of, sought_in}
use Rattle.cb_macros.proofs.search.found_in.Given as goal

abbrev pub invariant-loop-i : goal.invariant-loop-i
invariant-loop-i l =
    find (λ (m : Met). list_any (sought_in l.sought) (texts l.desk.timeline.present m.name))
    (map met_of (drop l.i l.seen.all.items))
    ≡ find (λ (m : Met). list_any (sought_in l.sought) (texts l.desk.timeline.present m.name))
    (map met_of l.seen.all.items)
