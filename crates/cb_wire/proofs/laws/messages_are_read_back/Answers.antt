use Rattle.cb_wire.proofs.Trees.{error-reads, log-reads, result-reads, show-reads}
use Rattle.cb_wire.proofs.laws.messages_are_read_back.Goals as goal

pub returns-clause-result : goal.returns-clause-result
returns-clause-result c = result-reads

pub returns-clause-error : goal.returns-clause-error
returns-clause-error c = error-reads

pub returns-clause-log : goal.returns-clause-log
returns-clause-log c = log-reads

pub returns-clause-show : goal.returns-clause-show
returns-clause-show c = show-reads
