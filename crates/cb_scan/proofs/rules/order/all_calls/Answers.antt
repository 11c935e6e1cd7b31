-- The same elements in order are the same list.
use Rattle.std.proofs.Common.{sym}
use Rattle.std.proofs.lemmas.Result.{IfOk-weaker}
use Rattle.cb_scan.specs.Order.{call_key}
use Rattle.cb_scan.proofs.OrderLemmas.{call_exact, in_order_same}
use Rattle.cb_scan.proofs.rules.order.all_calls.Goals as goal

pub returns : goal.returns
returns c =
    IfOk-weaker c.merged.result _ _
    (λ _ moved. sym (in_order_same call_key call_exact _ _ moved)) c.merged.ensures
