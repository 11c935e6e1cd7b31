use Rattle.std.proofs.Common.{arith, ap, length, map}
use Rattle.cb_wire.specs.Calls.{call_item_tree}
use Rattle.cb_wire.proofs.CallItems.{calls-length}
use Rattle.cb_wire.proofs.calls.CallsElement.length.Goals as goal

pub returns-clause-value : goal.returns-clause-value
returns-clause-value g c =
    let e = c.args.self.now in
    omega (
      arith,
      ap length c.side_front.ensures.value,
      c.item_length.ensures.value,
      c.ranges_length.ensures.value,
      calls-length e.side (call_item_tree e.item) (map g.R.Ranged.range e.calls.now),
    )
