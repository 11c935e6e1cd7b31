use Rattle.std.proofs.Common.{◌≡◌, ◌≤◌, ◌++◌, length, drop, vec_capacity}
use Rattle.cb_desk.specs.steps.Edits.{edited_each}
use Rattle.cb_desk.proofs.edits.edit_into.Given as goal

abbrev pub invariant-loop-edit : goal.invariant-loop-edit
invariant-loop-edit l = record {
  made : l.into.items ++ edited_each (drop l.edit-index l.edits) l.rest
      ≡ edited_each l.edits l.places;
  fits : length (edited_each l.edits l.places) ≤ vec_capacity l.into;
  room : vec_capacity l.initial.into ≤ vec_capacity l.into;
}
