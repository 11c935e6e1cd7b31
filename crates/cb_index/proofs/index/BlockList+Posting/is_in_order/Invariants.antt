use Rattle.std.proofs.Common.{◌∷◌, length}
use Rattle.cb_scan.proofs.OrderLemmas.{Sorted}
use Rattle.cb_index.specs.Entries.{sort_key}
use Rattle.cb_index.specs.steps.Runs.{run_items}
use Rattle.cb_index.specs.Kinds.{keyer_of}
use Rattle.cb_index.proofs.index.BlockList+Posting.is_in_order.Given as goal

abbrev pub decreases-loop-entry : goal.decreases-loop-entry
decreases-loop-entry l = length (run_items l.left)

-- where the last one and those after it are sorted, all are
abbrev pub invariant-loop-entry : goal.invariant-loop-entry
invariant-loop-entry l =
    Sorted (sort_key (keyer_of l.kind) l.archive) (l.last ∷ run_items l.left)
    → Sorted (sort_key (keyer_of l.kind) l.archive) l.self.items
