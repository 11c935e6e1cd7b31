use Rattle.std.proofs.Common.{◌≡◌, ◌+◌, drop, length}
use Rattle.cb_index.specs.Blocks.{joined}
use Rattle.cb_index.specs.steps.Runs.{run_items}
use Rattle.cb_index.proofs.blocks.Run.len.Given as goal

abbrev pub invariant-loop-block : goal.invariant-loop-block
invariant-loop-block t l =
    l.count + length (joined (drop l.block-index l.blocks)) ≡ length (run_items l.self)
