use Rattle.std.proofs.Common.{◌≡◌, length}
use Rattle.cb_index.specs.Blocks.{joined}
use Rattle.cb_index.proofs.blocks.Run.split_first.Given as goal

abbrev pub decreases-loop-block : goal.decreases-loop-block
decreases-loop-block t l = length l.blocks

abbrev pub invariant-loop-block : goal.invariant-loop-block
invariant-loop-block t l = joined l.blocks ≡ joined l.self.blocks.now
