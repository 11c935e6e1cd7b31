use Rattle.std.proofs.Common.{◌≡◌, ◌≤◌, ◌+◌, length, vec_capacity}
use Rattle.cb_index.proofs.blocks.Blocks.clear.Given as goal

abbrev pub decreases-loop-block : goal.decreases-loop-block
decreases-loop-block t l = length l.self-inside.used.items

abbrev pub invariant-loop-block : goal.invariant-loop-block
invariant-loop-block t l = record {
  count : length l.self-inside.used.items + length l.self-inside.spare.items
      ≡ length l.initial.self-inside.used.items + length l.initial.self-inside.spare.items;
  used_fits : length l.self-inside.used.items + length l.self-inside.spare.items
      ≤ vec_capacity l.self-inside.used;
  spare_fits : length l.self-inside.used.items + length l.self-inside.spare.items
      ≤ vec_capacity l.self-inside.spare;
}
