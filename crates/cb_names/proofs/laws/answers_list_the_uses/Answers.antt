use Rattle.cb_names.proofs.RenamingLaws.{label_listed, local_listed}
use Rattle.cb_names.proofs.laws.answers_list_the_uses.Goals as goal

pub returns-clause-local : goal.returns-clause-local
returns-clause-local c = local_listed

pub returns-clause-label : goal.returns-clause-label
returns-clause-label c = label_listed
