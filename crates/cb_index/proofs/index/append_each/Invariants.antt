use Rattle.std.proofs.Common.{◌≡◌, ◌≤◌, ◌++◌, drop, vec_capacity}
use Rattle.cb_index.specs.Held.{all_entries}
use Rattle.cb_index.specs.Kinds.{lister_of}
use Rattle.cb_index.proofs.index.append_each.Given as goal

abbrev pub invariant-loop-one : goal.invariant-loop-one
invariant-loop-one l = record {
  entries : l.entries.items ++ all_entries (lister_of l.kind) l.archive (drop l.one-index l.shown)
      ≡ l.initial.entries.items ++ all_entries (lister_of l.kind) l.archive l.shown;
  grown : vec_capacity l.initial.entries ≤ vec_capacity l.entries;
}
