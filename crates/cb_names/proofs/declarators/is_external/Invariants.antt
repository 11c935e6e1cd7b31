-- What is left tells what all do.
use Rattle.std.proofs.Common.{◌≡◌, ◌≤◌}
use Rattle.std.specs.Prelude.{drop}
use Rattle.cb_names.specs.Declarators.{is_external}
use Rattle.cb_names.proofs.declarators.is_external.Given as goal

abbrev pub invariant-loop-i : goal.invariant-loop-i
invariant-loop-i l = record {
  few : l.depth ≤ l._i;
  rest : is_external l.items l.depth (drop l._i l.places) ≡ is_external l.items 0 l.places;
}
