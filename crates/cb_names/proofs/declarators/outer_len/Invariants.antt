-- What is counted and what is left are all.
use Rattle.std.proofs.Common.{◌≡◌, ◌+◌, ◌≤◌}
use Rattle.std.specs.Prelude.{drop}
use Rattle.cb_names.specs.Declarators.{outer_len}
use Rattle.cb_names.proofs.declarators.outer_len.Given as goal

abbrev pub invariant-loop-i : goal.invariant-loop-i
invariant-loop-i l = record {
  few : l.depth ≤ l.i;
  value : l.i + outer_len l.first l.second l.items l.depth (drop l.i l.places)
      ≡ outer_len l.first l.second l.items 0 l.places;
}
