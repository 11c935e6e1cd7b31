use Rattle.std.proofs.Common.{◌≡◌, ◌+◌, drop, length}
use Rattle.cb_index.specs.Blocks.{joined}
use Rattle.cb_index.specs.steps.ShownIn.{shown_in}
use Rattle.cb_index.proofs.files.ShownFiles.len.Given as goal

abbrev pub invariant-loop-block : goal.invariant-loop-block
invariant-loop-block l =
    l.count + length (joined (drop l.block-index l.blocks)) ≡ length (shown_in l.self)
