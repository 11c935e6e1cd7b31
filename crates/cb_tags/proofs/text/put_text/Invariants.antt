use Rattle.std.proofs.Common.{length, take, ◌-◌, ◌≤◌}
use Rattle.cb_tags.specs.Writing.{PutsAll}
use Rattle.cb_tags.proofs.text.put_text.Given as goal

abbrev pub invariant-loop-at : goal.invariant-loop-at
invariant-loop-at g l =
    record { within : l.at ≤ length l.text; written : PutsAll l.fn.out l.out (take l.at l.text) }

abbrev pub decreases-loop-at : goal.decreases-loop-at
decreases-loop-at g l = length l.text - l.at
