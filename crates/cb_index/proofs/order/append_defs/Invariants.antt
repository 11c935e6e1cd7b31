use Rattle.std.proofs.Common.{◌≡◌, ◌≤◌, ◌+◌, ◌-◌, ◌++◌, length, map, drop, vec_len, vec_capacity}
use Rattle.cb_index.specs.Held.{entry_of}
use Rattle.cb_index.specs.Orders.{numbered, prefixed}
use Rattle.cb_index.proofs.order.append_defs.Given as goal

abbrev pub invariant-loop-i : goal.invariant-loop-i
invariant-loop-i l = record {
  entries : l.entries.items
      ++ map (entry_of l.shown)
      (numbered l.i (map (prefixed l.by_tag_name l.text) (drop l.i l.defs)))
      ≡ l.initial.entries.items
      ++ map (entry_of l.shown) (numbered 0 (map (prefixed l.by_tag_name l.text) l.defs));
  room : vec_len l.entries + (length l.defs - l.i) ≤ vec_capacity l.entries;
  grown : vec_capacity l.initial.entries ≤ vec_capacity l.entries;
}
