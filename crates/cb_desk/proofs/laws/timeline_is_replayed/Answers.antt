use Rattle.cb_desk.proofs.Replays.{timeline_is_replayed}
use Rattle.cb_desk.proofs.laws.timeline_is_replayed.Goals as goal

pub returns : goal.returns
returns c = timeline_is_replayed
