use Rattle.cb_session.proofs.Replay.{output_is_replayed}
use Rattle.cb_session.proofs.laws.output_is_replayed.Goals as goal

pub returns : goal.returns
returns c = output_is_replayed
