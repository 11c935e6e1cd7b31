use Rattle.std.proofs.Common.{◌≡◌, ◌+◌, length}
use Rattle.cb_index.specs.Files.{count_for, total}
use Rattle.cb_index.specs.steps.ShownIn.{shown_in}
use Rattle.cb_index.proofs.totals.total_in.Given as goal

abbrev pub invariant-loop-one : goal.invariant-loop-one
invariant-loop-one l =
    l.count + total (count_for l.kind) l.archive (shown_in l.left)
    ≡ total (count_for l.kind) l.archive (shown_in l.shown)

abbrev pub decreases-loop-one : goal.decreases-loop-one
decreases-loop-one l = length (shown_in l.left)
