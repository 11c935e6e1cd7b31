-- What is left decides.
use Rattle.std.proofs.Common.{◌≡◌, map}
use Rattle.std.specs.Prelude.{drop}
use Rattle.cb_names.specs.declared.macros.MacroName.{MacroName}
use Rattle.cb_scan.specs.lex.Tokens.{bytes_of}
use Rattle.cb_macros.specs.Meeting.{meet_all, met_through}
use Rattle.cb_macros.specs.steps.Meetings.{seen_of}
use Rattle.cb_macros.proofs.search.meet_names.Given as goal

abbrev pub invariant-loop-i : goal.invariant-loop-i
invariant-loop-i l =
    meet_all l.desk.timeline.present (seen_of l.seen)
    (met_through l.through (map (λ (n : MacroName). bytes_of l.rest n.name) (drop l.i l.names)))
    ≡ meet_all l.desk.timeline.present (seen_of l.fn.seen)
    (met_through l.through (map (λ (n : MacroName). bytes_of l.rest n.name) l.parts.names))
