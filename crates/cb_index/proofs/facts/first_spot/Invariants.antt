use Rattle.std.proofs.Common.{◌≡◌}
use Rattle.cb_index.specs.steps.Left.{group_count, groups_left}
use Rattle.cb_index.proofs.facts.first_spot.Given as goal

abbrev pub decreases-loop-step : goal.decreases-loop-step
decreases-loop-step l = group_count l.left

abbrev pub invariant-loop-step : goal.invariant-loop-step
invariant-loop-step l =
    groups_left l.all l.sort l.archive l.left ≡ groups_left l.all l.sort l.archive l.fn.groups
