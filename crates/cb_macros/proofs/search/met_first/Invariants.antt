-- What is left decides.
use Rattle.std.proofs.Common.{◌≡◌, map}
use Rattle.std.specs.Prelude.{drop}
use Rattle.cb_scan.specs.lex.Tokens.{bytes_of}
use Rattle.cb_macros.specs.Meeting.{meet_all, met_first}
use Rattle.cb_macros.specs.steps.Meetings.{nothing_seen, seen_of}
use Rattle.cb_macros.proofs.search.met_first.Given as goal

abbrev pub invariant-loop-i : goal.invariant-loop-i
invariant-loop-i l =
    meet_all l.desk.timeline.present (seen_of l.seen)
    (met_first (map (bytes_of l.source) (drop l.i l.names)))
    ≡ meet_all l.desk.timeline.present nothing_seen (met_first (map (bytes_of l.source) l.names))
