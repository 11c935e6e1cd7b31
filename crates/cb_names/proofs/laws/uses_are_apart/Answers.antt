use Rattle.cb_names.proofs.RenamingLaws.{use_has_word, uses_apart}
use Rattle.cb_names.proofs.laws.uses_are_apart.Goals as goal

pub returns-clause-word : goal.returns-clause-word
returns-clause-word c = use_has_word

pub returns-clause-apart : goal.returns-clause-apart
returns-clause-apart c = uses_apart
