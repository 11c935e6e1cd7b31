use Rattle.std.proofs.Common.{◌≡◌, ◌≤◌}
use Rattle.cb_index.specs.Repeats.{any_below, have_one_row, is_repeat}
use Rattle.cb_index.proofs.repeats.search_repeat.Given as goal

abbrev pub invariant-loop-before : goal.invariant-loop-before
invariant-loop-before l =
    (l.before ≤ l.item)
    × (any_below (have_one_row l.sort l.text l.item) l.before ≡ is_repeat l.sort l.text l.item)

abbrev pub decreases-loop-before : goal.decreases-loop-before
decreases-loop-before l = l.before
