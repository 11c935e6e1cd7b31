use Rattle.std.proofs.Common.{◌≡◌, ◌-◌}
use Rattle.cb_index.specs.Items.{item_count, later}
use Rattle.cb_index.proofs.ItemLemmas.{later_from}
use Rattle.cb_index.proofs.items.next_of_key.Given as goal

abbrev pub decreases-loop-next : goal.decreases-loop-next
decreases-loop-next l = item_count l.sort l.version - l.next

abbrev pub invariant-loop-next : goal.invariant-loop-next
invariant-loop-next l = later_from l.sort l.version l.item l.next ≡ later l.sort l.version l.item
