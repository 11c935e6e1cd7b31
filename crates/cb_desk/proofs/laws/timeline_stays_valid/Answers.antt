use Rattle.cb_desk.proofs.Moves.{change_keeps_valid, forget_keeps_valid, undo_keeps_valid, redo_keeps_valid}
use Rattle.cb_desk.proofs.laws.timeline_stays_valid.Goals as goal

pub returns : goal.returns
returns c = record {
  by_change = change_keeps_valid;
  by_undo = undo_keeps_valid;
  by_redo = redo_keeps_valid;
  by_forget = forget_keeps_valid;
}
