use Rattle.cb_desk.proofs.Moves.{undo_takes_back}
use Rattle.cb_desk.proofs.laws.undo_takes_back.Goals as goal

pub returns : goal.returns
returns c = undo_takes_back
