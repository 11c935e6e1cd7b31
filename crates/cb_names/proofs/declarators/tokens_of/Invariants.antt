-- Those up to here.
use Rattle.std.proofs.Common.{◌≡◌, take}
use Rattle.cb_names.specs.Declarators.{tokens_of}
use Rattle.cb_names.proofs.declarators.tokens_of.Given as goal

abbrev pub invariant-loop-i : goal.invariant-loop-i
invariant-loop-i l = l.found.items ≡ tokens_of l.items (take l.i l.places)
