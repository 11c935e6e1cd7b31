use Rattle.std.proofs.Common.{◌≡◌, length}
use Rattle.cb_index.specs.steps.Includes.{includes_in}
use Rattle.cb_index.specs.steps.Left.{entries_left}
use Rattle.cb_index.proofs.includes.first_include.Given as goal

abbrev pub decreases-loop-file : goal.decreases-loop-file
decreases-loop-file l = length (entries_left l.left)

abbrev pub invariant-loop-file : goal.invariant-loop-file
invariant-loop-file l =
    includes_in (entries_left l.left) ≡ includes_in (entries_left l.fn.entries)
