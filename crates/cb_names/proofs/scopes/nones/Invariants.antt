-- So many are made.
use Rattle.std.proofs.Common.{◌≡◌, None, replicate}
use Rattle.cb_names.proofs.scopes.nones.Given as goal

abbrev pub invariant-loop-i : goal.invariant-loop-i
invariant-loop-i l = l.made.items ≡ replicate l._i None
