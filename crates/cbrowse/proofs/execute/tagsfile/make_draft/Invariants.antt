use Rattle.std.proofs.Common.{◌≡◌}
use Rattle.cbrowse.proofs.execute.tagsfile.make_draft.Given as goal

abbrev pub invariant-loop-number : goal.invariant-loop-number
invariant-loop-number g l = l.disk ≡ l.fn.disk
