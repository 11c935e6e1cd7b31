-- The first tokens are read.
use Rattle.std.proofs.Common.{◌≡◌, map}
use Rattle.std.specs.Prelude.{take}
use Rattle.cb_names.specs.Words.{item_of}
use Rattle.cb_names.proofs.function.items_of.Given as goal

abbrev pub invariant-loop-i : goal.invariant-loop-i
invariant-loop-i l = l.found.items ≡ map (item_of l.text) (take l.i l.tokens)
