use Rattle.std.proofs.Common.{◌≡◌, ◌≤◌, ◌++◌, drop}
use Rattle.cb_scan.specs.Order.{in_order}
use Rattle.cb_index.specs.Entries.{sort_key}
use Rattle.cb_index.specs.Held.{all_entries}
use Rattle.cb_index.specs.Kinds.{keyer_of, lister_of}
use Rattle.cb_index.proofs.index.BlockList+Posting.put_each.Given as goal

-- the entries that are put and those that are not are the old and the new ones
abbrev pub invariant-loop-one : goal.invariant-loop-one
invariant-loop-one l = record {
  order : l.self.items ≡ in_order (sort_key (keyer_of l.kind) l.archive) l.self.items;
  same : in_order (sort_key (keyer_of l.kind) l.archive)
      (l.self.items ++ all_entries (lister_of l.kind) l.archive (drop l.one-index l.shown))
      ≡ in_order (sort_key (keyer_of l.kind) l.archive)
      (l.initial.self.items ++ all_entries (lister_of l.kind) l.archive l.shown);
  room : l.initial.self.room ≤ l.self.room;
}
