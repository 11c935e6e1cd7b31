use Rattle.std.proofs.Common.{◌≡◌, ◌+◌, ◌-◌, ◌≤◌, map, vec_len, vec_capacity}
use Rattle.std.specs.List.{range_with_len}
use Rattle.cb_index.specs.Columns.{cell_of}
use Rattle.cb_index.specs.Items.{item_count}
use Rattle.cb_index.specs.steps.Numbering.{AreRows}
use Rattle.cb_index.proofs.columns.column_by_rows.Given as goal

abbrev pub invariant-loop-item : goal.invariant-loop-item
invariant-loop-item l = record {
  cells : l.cells.items ≡ map (cell_of l.sort l.text) (range_with_len 0 l.item);
  room : vec_len l.cells + (item_count l.sort l.text - l.item) ≤ vec_capacity l.cells;
  rows : AreRows l.sort l.text l.rows l.item;
}
