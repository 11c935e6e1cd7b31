use Rattle.std.proofs.Common.{◌≡◌, drop, length}
use Rattle.cb_index.specs.Columns.{with_flags}
use Rattle.cb_index.proofs.columns.set_flags.Given as goal

abbrev pub invariant-loop-cell : goal.invariant-loop-cell
invariant-loop-cell l = record {
  found : with_flags l.flags (drop l.cell-index l.cells) ≡ with_flags l.initial.flags l.cells;
  size : length l.flags ≡ length l.initial.flags;
}
