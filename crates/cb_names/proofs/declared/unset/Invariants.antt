-- So many are made.
use Rattle.std.proofs.Common.{◌≡◌, false, replicate}
use Rattle.cb_names.proofs.declared.unset.Given as goal

abbrev pub invariant-loop-i : goal.invariant-loop-i
invariant-loop-i l = l.flags.items ≡ replicate l._i false
