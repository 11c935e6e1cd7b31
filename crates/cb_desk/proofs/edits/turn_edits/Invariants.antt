use Rattle.std.proofs.Common.{◌≡◌, ◌++◌, take, drop}
use Rattle.cb_desk.specs.steps.Edits.{turned_each}
use Rattle.cb_desk.proofs.edits.turn_edits.Given as goal

abbrev pub invariant-loop-edit : goal.invariant-loop-edit
invariant-loop-edit l =
    l.edits ≡ turned_each (take l.edit-index l.initial.edits) ++ drop l.edit-index l.initial.edits
