use Rattle.cb_desk.proofs.StepsValid.{step_keeps_valid}
use Rattle.cb_desk.proofs.laws.step_keeps_valid.Goals as goal

pub returns : goal.returns
returns c = step_keeps_valid
