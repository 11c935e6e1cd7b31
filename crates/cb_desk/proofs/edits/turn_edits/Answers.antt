use Rattle.std.proofs.Common.{rules}
use Rattle.std.proofs.lemmas.List.Edits.{map_over_more}
use Rattle.cb_desk.specs.steps.Edits.{turned_edit}
use Rattle.cb_desk.proofs.edits.turn_edits.Goals as goal

pub loop-edit-preserved : goal.loop-edit-preserved
loop-edit-preserved c =
    rw c.turned.ensures (map_over_more turned_edit c.args.edits.now c.loop-edit.edits
    c.loop-edit.edit-index _ c.loop-edit-test.true c.loop-edit.invariant (search rules))
