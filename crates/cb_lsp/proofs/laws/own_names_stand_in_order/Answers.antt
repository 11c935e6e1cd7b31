use Rattle.cb_lsp.proofs.NameOrder.{has_same, stand_in_order}
use Rattle.cb_lsp.proofs.laws.own_names_stand_in_order.Goals as goal

pub returns-clause-order : goal.returns-clause-order
returns-clause-order c = stand_in_order

pub returns-clause-same : goal.returns-clause-same
returns-clause-same c = λ names name. has_same name names
