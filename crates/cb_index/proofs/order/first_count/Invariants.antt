use Rattle.std.proofs.Common.{◌≡◌, ◌≤◌, ◌+◌, length}
use Rattle.cb_index.specs.Firsts.{firsts}
use Rattle.cb_index.proofs.ItemLemmas.{firsts_from}
use Rattle.cb_index.proofs.order.first_count.Given as goal

abbrev pub invariant-loop-item : goal.invariant-loop-item
invariant-loop-item l = record {
  counted : l.count + length (firsts_from l.kind l.version l.item)
      ≡ length (firsts l.kind l.version);
  few : l.count ≤ l.item;
}
