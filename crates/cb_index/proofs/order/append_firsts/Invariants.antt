use Rattle.std.proofs.Common.{◌≡◌, ◌≤◌, ◌+◌, ◌++◌, length, map, vec_len, vec_capacity}
use Rattle.cb_index.specs.Held.{entry_of}
use Rattle.cb_index.specs.Firsts.{firsts}
use Rattle.cb_index.proofs.ItemLemmas.{firsts_from}
use Rattle.cb_index.proofs.order.append_firsts.Given as goal

abbrev pub invariant-loop-item : goal.invariant-loop-item
invariant-loop-item l = record {
  entries : l.entries.items ++ map (entry_of l.shown) (firsts_from l.kind l.version l.item)
      ≡ l.initial.entries.items ++ map (entry_of l.shown) (firsts l.kind l.version);
  room : vec_len l.entries + length (firsts_from l.kind l.version l.item) ≤ vec_capacity l.entries;
  grown : vec_capacity l.initial.entries ≤ vec_capacity l.entries;
}
