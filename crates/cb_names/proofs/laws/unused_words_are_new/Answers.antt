use Rattle.cb_names.proofs.RenamingLaws.{new_to_labels, new_to_names}
use Rattle.cb_names.proofs.laws.unused_words_are_new.Goals as goal

pub returns-clause-names : goal.returns-clause-names
returns-clause-names c = new_to_names

pub returns-clause-labels : goal.returns-clause-labels
returns-clause-labels c = new_to_labels
