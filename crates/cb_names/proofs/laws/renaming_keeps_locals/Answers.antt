use Rattle.cb_names.proofs.RenamingLaws.{local_binds, local_exactly, local_labels, local_uses}
use Rattle.cb_names.proofs.laws.renaming_keeps_locals.Goals as goal

pub returns-clause-bindings : goal.returns-clause-bindings
returns-clause-bindings c = local_binds

pub returns-clause-uses : goal.returns-clause-uses
returns-clause-uses c = local_uses

pub returns-clause-exactly : goal.returns-clause-exactly
returns-clause-exactly c = local_exactly

pub returns-clause-labels : goal.returns-clause-labels
returns-clause-labels c = local_labels
