use Rattle.std.proofs.Common.{◌≡◌, ◌+◌, drop}
use Rattle.cb_index.specs.Files.{count_for, total}
use Rattle.cb_index.proofs.totals.total_of.Given as goal

abbrev pub invariant-loop-s : goal.invariant-loop-s
invariant-loop-s l =
    l.count + total (count_for l.kind) l.archive (drop l.s-index l.shown)
    ≡ total (count_for l.kind) l.archive l.shown
