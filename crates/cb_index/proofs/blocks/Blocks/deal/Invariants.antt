use Rattle.std.proofs.Common.{◌≡◌, ◌≤◌, ◌+◌, ◌*◌, ◌++◌, length, vec_capacity}
use Rattle.std.specs.List.{AllByRecursion}
use Rattle.cb_index.specs.declared.blocks.TheConstants.{HALF}
use Rattle.cb_index.specs.Blocks.{IsFilled, joined}
use Rattle.cb_index.proofs.blocks.Blocks.deal.Given as goal

abbrev pub decreases-loop-left : goal.decreases-loop-left
decreases-loop-left t l = length l.left

abbrev pub invariant-loop-left : goal.invariant-loop-left
invariant-loop-left t l = record {
  dealt : joined l.self-inside.used.items ++ l.left ≡ l.fn.items;
  room : length l.left ≤ HALF * length l.self-inside.spare.items;
  filled : AllByRecursion IsFilled l.self-inside.used.items;
  count : length l.self-inside.used.items + length l.self-inside.spare.items
      ≡ length l.initial.self-inside.used.items + length l.initial.self-inside.spare.items;
  used_fits : length l.self-inside.used.items + length l.self-inside.spare.items
      ≤ vec_capacity l.self-inside.used;
  spare_fits : length l.self-inside.used.items + length l.self-inside.spare.items
      ≤ vec_capacity l.self-inside.spare;
}
