-- The tokens up to here are moved.
use Rattle.std.proofs.Common.{◌≡◌, map}
use Rattle.std.specs.Prelude.{take}
use Rattle.cb_names.specs.Parameters.{line_item}
use Rattle.cb_names.proofs.parameter.moved_items.Given as goal

abbrev pub invariant-loop-i : goal.invariant-loop-i
invariant-loop-i l = l.items.items ≡ map (line_item l.from) (take l.i l.tokens)
