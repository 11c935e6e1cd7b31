-- None of the first tokens is one.
use Rattle.std.proofs.Common.{◌≡◌, false}
use Rattle.std.specs.Prelude.{take}
use Rattle.cb_names.specs.FunctionNames.{has_hard}
use Rattle.cb_names.proofs.names.has_hard.Given as goal

abbrev pub invariant-loop-i : goal.invariant-loop-i
invariant-loop-i l = has_hard (take l.i l.items) ≡ false
