use Rattle.std.proofs.Common.{◌≡◌, ◌≤◌, ◌++◌, drop, vec_capacity}
use Rattle.cb_index.specs.Blocks.{joined}
use Rattle.cb_index.proofs.blocks.Blocks.lift.Given as goal

abbrev pub invariant-loop-block : goal.invariant-loop-block
invariant-loop-block t l = record {
  items : l.items.items ++ joined (drop l.block-index l.used)
      ≡ l.initial.items.items ++ joined l.used;
  grown : vec_capacity l.initial.items ≤ vec_capacity l.items;
}
