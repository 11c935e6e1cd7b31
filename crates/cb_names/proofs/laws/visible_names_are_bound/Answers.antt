use Rattle.cb_names.proofs.VisibleLaws.{visible_bound}
use Rattle.cb_names.proofs.laws.visible_names_are_bound.Goals as goal

pub returns : goal.returns
returns c = visible_bound
