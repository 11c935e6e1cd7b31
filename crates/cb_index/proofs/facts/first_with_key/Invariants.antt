use Rattle.std.proofs.Common.{◌≡◌, ◌<◌, ◌-◌, ℕ, false}
use Rattle.cb_index.specs.Items.{item_count}
use Rattle.cb_index.proofs.FirstLemmas.{has}
use Rattle.cb_index.proofs.facts.first_with_key.Given as goal

abbrev pub decreases-loop-item : goal.decreases-loop-item
decreases-loop-item l = item_count l.sort l.version - l.item

abbrev pub invariant-loop-item : goal.invariant-loop-item
invariant-loop-item l = (before : ℕ) → before < l.item → has l.sort l.version l.key before ≡ false
