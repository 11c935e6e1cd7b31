use Rattle.std.proofs.Common.{◌+◌, ◌-◌, length}
use Rattle.cb_index.proofs.sort.+parts.Given as goal

abbrev pub decreases-sort_run : goal.decreases-sort_run
decreases-sort_run l = length l.entries.now + (136 - l.depth)

abbrev pub decreases-sort_parts : goal.decreases-sort_parts
decreases-sort_parts l = length l.entries.now + (136 - l.depth) + 1
