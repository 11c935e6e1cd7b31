use Rattle.cb_scan.proofs.InOrder.{facts_in_order}
use Rattle.cb_scan.proofs.laws.facts_in_order.Goals as goal

pub returns : goal.returns
returns c = facts_in_order
