use Rattle.std.proofs.Common.{◌≡◌, ◌≤◌, ◌+◌, ◌++◌, length, vec_capacity}
use Rattle.cb_scan.specs.Order.{in_order}
use Rattle.cb_index.specs.Blocks.{joined}
use Rattle.cb_index.specs.Entries.{sort_key}
use Rattle.cb_index.specs.Kinds.{keyer_of}
use Rattle.cb_index.specs.steps.Lists.{Fit}
use Rattle.cb_index.proofs.index.put_rest.Given as goal

abbrev pub decreases-loop-one : goal.decreases-loop-one
decreases-loop-one l = length l.news.items

-- the entries that are put and those that are not are the old and the new ones
abbrev pub invariant-loop-one : goal.invariant-loop-one
invariant-loop-one l = record {
  order : joined l.blocks.used
      ≡ in_order (sort_key (keyer_of l.kind) l.archive) (joined l.blocks.used);
  same : in_order (sort_key (keyer_of l.kind) l.archive) (joined l.blocks.used ++ l.news.items)
      ≡ in_order (sort_key (keyer_of l.kind) l.archive)
      (joined l.initial.blocks.used ++ l.initial.news.items);
  fits : Fit (length l.news.items + length (joined l.blocks.used)) (vec_capacity l.news)
      l.blocks.count;
  count : l.blocks.count ≡ l.initial.blocks.count;
  room : vec_capacity l.initial.news ≤ vec_capacity l.news;
}
