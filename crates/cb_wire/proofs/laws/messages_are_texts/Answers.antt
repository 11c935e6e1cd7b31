use Rattle.cb_wire.proofs.Plain.{escape-escaped}
use Rattle.cb_wire.proofs.Trees.{error-text, log-text, result-text, show-text}
use Rattle.cb_wire.proofs.laws.messages_are_texts.Goals as goal

pub returns-clause-result : goal.returns-clause-result
returns-clause-result c = result-text

pub returns-clause-error : goal.returns-clause-error
returns-clause-error c = error-text

pub returns-clause-log : goal.returns-clause-log
returns-clause-log c = log-text

pub returns-clause-show : goal.returns-clause-show
returns-clause-show c = show-text

pub returns-clause-path : goal.returns-clause-path
returns-clause-path c = escape-escaped
