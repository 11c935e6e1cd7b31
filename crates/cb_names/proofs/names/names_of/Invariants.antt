-- The names of the first tokens are found.
use Rattle.std.proofs.Common.{◌≡◌}
use Rattle.std.specs.Prelude.{take}
use Rattle.cb_names.specs.FunctionNames.{names_of}
use Rattle.cb_names.proofs.names.names_of.Given as goal

abbrev pub invariant-loop-i : goal.invariant-loop-i
invariant-loop-i l = l.found.items ≡ names_of (take l.i l.items)
