use Rattle.std.proofs.Common.{◌≡◌}
use Rattle.cb_index.proofs.shown.note_block.Given as goal

abbrev pub invariant-loop-at : goal.invariant-loop-at
invariant-loop-at l = l.archive ≡ l.initial.archive
