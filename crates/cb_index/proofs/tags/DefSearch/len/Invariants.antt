use Rattle.std.proofs.Common.{◌≡◌, ◌+◌, length}
use Rattle.cb_index.specs.steps.DefSearch.{search_left}
use Rattle.cb_index.proofs.tags.DefSearch.len.Given as goal

abbrev pub decreases-loop-entry : goal.decreases-loop-entry
decreases-loop-entry l = length (search_left l.left)

abbrev pub invariant-loop-entry : goal.invariant-loop-entry
invariant-loop-entry l = l.count + length (search_left l.left) ≡ length (search_left l.self)
