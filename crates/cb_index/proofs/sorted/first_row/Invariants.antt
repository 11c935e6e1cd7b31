use Rattle.std.proofs.Common.{◌≡◌, length}
use Rattle.cb_index.specs.steps.Runs.{run_items}
use Rattle.cb_index.specs.steps.Spread.{rows_in}
use Rattle.cb_index.proofs.sorted.first_row.Given as goal

abbrev pub decreases-loop-entry : goal.decreases-loop-entry
decreases-loop-entry l = length (run_items l.left)

abbrev pub invariant-loop-entry : goal.invariant-loop-entry
invariant-loop-entry l =
    rows_in l.sort l.archive (run_items l.left)
    ≡ rows_in l.sort l.archive (run_items l.fn.entries)
