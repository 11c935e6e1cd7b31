-- What is left tells what all do.
use Rattle.std.proofs.Common.{◌≡◌, ◌≤◌}
use Rattle.std.specs.Prelude.{drop}
use Rattle.cb_names.specs.Declarators.{pointer_end}
use Rattle.cb_names.proofs.declarators.pointer_end.Given as goal

abbrev pub invariant-loop-i : goal.invariant-loop-i
invariant-loop-i l = record {
  few : l.depth ≤ l.i;
  rest : pointer_end l.shape.items.items l.depth (drop l.i l.places) ≡ pointer_end l.shape.items.items 0 l.places;
}
