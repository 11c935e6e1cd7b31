use Rattle.cb_desk.proofs.Moves.{redo_takes_back}
use Rattle.cb_desk.proofs.laws.redo_takes_back.Goals as goal

pub returns : goal.returns
returns c = redo_takes_back
