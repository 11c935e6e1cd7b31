-- What is found and what is left are all.
use Rattle.std.proofs.Common.{◌≡◌, ◌-◌, ◌≤◌, suc, true, length}
use Rattle.cb_names.specs.Declarators.{both, found_in_parts}
use Rattle.cb_names.proofs.declarators.push_parts.Given as goal

abbrev pub invariant-parts : goal.invariant-parts
invariant-parts l = record {
  found : both l.found (found_in_parts l.shape.items.items l.of_list (suc (length l.places) - l.step) l.is_first l.rest)
      ≡ both l.initial.found (found_in_parts l.shape.items.items l.of_list (suc (length l.places)) true l.places);
  few : length l.rest ≤ length l.places;
}
