use Rattle.cb_names.proofs.RenamingLaws.{bound_to_themselves}
use Rattle.cb_names.proofs.laws.declarations_are_bound_to_themselves.Goals as goal

pub returns : goal.returns
returns c = bound_to_themselves
