use Rattle.std.proofs.Common.{◌≡◌, ◌+◌, ◌-◌, ◌≤◌, length, map, vec_len, vec_capacity}
use Rattle.std.specs.List.{range_with_len}
use Rattle.cb_index.specs.Columns.{cell_of}
use Rattle.cb_index.specs.declared.entry.FactKind.TheVariants.{Callers}
use Rattle.cb_index.proofs.columns.callers_of.Given as goal

abbrev pub invariant-loop-item : goal.invariant-loop-item
invariant-loop-item l = record {
  cells : l.cells.items ≡ map (cell_of Callers l.text) (range_with_len 0 l.item);
  room : vec_len l.cells + (length l.callees - l.item) ≤ vec_capacity l.cells;
}
