use Rattle.cb_names.proofs.RenamingLaws.{label_binds, labels_same}
use Rattle.cb_names.proofs.laws.renaming_keeps_labels.Goals as goal

pub returns-clause-labels : goal.returns-clause-labels
returns-clause-labels c = labels_same

pub returns-clause-bindings : goal.returns-clause-bindings
returns-clause-bindings c = label_binds
