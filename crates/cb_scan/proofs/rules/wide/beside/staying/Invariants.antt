-- What is kept and what will be are all that stay.
use Rattle.std.proofs.Common.{◌≡◌, ◌++◌, drop}
use Rattle.cb_scan.specs.steps.wide.Gathering.{staying}
use Rattle.cb_scan.proofs.rules.wide.beside.staying.Given as goal

abbrev pub invariant-loop-def : goal.invariant-loop-def
invariant-loop-def l =
    l.kept.items ++ staying l.prototypes l.left (drop l.def-index l.defs)
    ≡ staying l.prototypes l.ranges l.defs
