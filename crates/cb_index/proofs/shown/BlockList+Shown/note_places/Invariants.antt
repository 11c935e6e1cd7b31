use Rattle.std.proofs.Common.{◌≡◌}
use Rattle.cb_index.proofs.shown.BlockList+Shown.note_places.Given as goal

abbrev pub invariant-loop-block : goal.invariant-loop-block
invariant-loop-block l = l.archive ≡ l.initial.archive
