-- What is left ascends from a place on as all do.
use Rattle.std.proofs.Common.{◌≡◌, drop}
use Rattle.cb_scan.specs.steps.Ascending.{ascend_from}
use Rattle.cb_scan.proofs.rules.order.ascend.Given as goal

abbrev pub invariant-loop-item : goal.invariant-loop-item
invariant-loop-item g l =
    ascend_from g.T.Placed.place_of l.place (drop l.item-index l.items)
    ≡ ascend_from g.T.Placed.place_of 0 l.items
