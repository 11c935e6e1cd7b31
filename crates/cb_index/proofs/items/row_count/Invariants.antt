use Rattle.std.proofs.Common.{◌≡◌, ◌+◌, ◌<◌, ◌^◌, length, filter, not}
use Rattle.cb_index.specs.Repeats.{is_repeat}
use Rattle.cb_index.specs.steps.Chains.{chain_left}
use Rattle.cb_index.specs.steps.Spread.{items_from}
use Rattle.cb_index.proofs.items.row_count.Given as goal

abbrev pub decreases-loop-next : goal.decreases-loop-next
decreases-loop-next l = length (chain_left l.items)

abbrev pub invariant-loop-next : goal.invariant-loop-next
invariant-loop-next l = record {
  counted : l.count + length (filter (λ i. not (is_repeat l.sort l.version i)) (chain_left l.items))
      ≡ length (filter (λ i. not (is_repeat l.sort l.version i))
      (items_from l.sort l.version l.item));
  few : l.count + length (chain_left l.items) < 2 ^ 32;
}
