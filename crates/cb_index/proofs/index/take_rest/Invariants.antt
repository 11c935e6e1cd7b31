use Rattle.std.proofs.Common.{◌≡◌, ◌++◌, List, length, vec_capacity}
use Rattle.cb_scan.specs.Order.{in_order}
use Rattle.cb_index.specs.Blocks.{joined}
use Rattle.cb_index.specs.Entries.{sort_key}
use Rattle.cb_index.specs.declared.entry.Posting.{Posting}
use Rattle.cb_index.specs.Kinds.{keyer_of}
use Rattle.cb_index.proofs.index.take_rest.Given as goal

abbrev pub decreases-loop-one : goal.decreases-loop-one
decreases-loop-one l = length l.gone.items

-- what is still to be taken is there beside the rest
abbrev pub invariant-loop-one : goal.invariant-loop-one
invariant-loop-one l = record {
  left : (rest : List Posting)
      → joined l.initial.blocks.used
      ≡ in_order (sort_key (keyer_of l.kind) l.archive) (l.initial.gone.items ++ rest)
      → joined l.blocks.used
      ≡ in_order (sort_key (keyer_of l.kind) l.archive) (l.gone.items ++ rest);
  count : l.blocks.count ≡ l.initial.blocks.count;
  room : vec_capacity l.gone ≡ vec_capacity l.initial.gone;
}
