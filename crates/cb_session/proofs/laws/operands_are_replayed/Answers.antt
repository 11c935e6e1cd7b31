use Rattle.cb_session.proofs.Replay.{operands_are_replayed}
use Rattle.cb_session.proofs.laws.operands_are_replayed.Goals as goal

pub returns : goal.returns
returns c = operands_are_replayed
