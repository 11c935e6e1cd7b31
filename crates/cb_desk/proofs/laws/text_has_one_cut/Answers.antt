use Rattle.cb_desk.proofs.Gaps.{one_cut}
use Rattle.cb_desk.proofs.laws.text_has_one_cut.Goals as goal

pub returns : goal.returns
returns c = one_cut
