use Rattle.std.proofs.Common.{◌≡◌, ◌+◌, ◌-◌, ◌≤◌, map, vec_len, vec_capacity}
use Rattle.std.specs.List.{range_with_len}
use Rattle.cb_index.specs.Items.{item_count}
use Rattle.cb_index.specs.steps.Numbering.{Knows, number_of}
use Rattle.cb_index.proofs.columns.numbers_of.Given as goal

abbrev pub invariant-loop-item : goal.invariant-loop-item
invariant-loop-item l = record {
  numbers : l.numbers.items ≡ map (number_of l.sort l.text) (range_with_len 0 l.item);
  room : vec_len l.numbers + (item_count l.sort l.text - l.item) ≤ vec_capacity l.numbers;
  known : Knows l.sort l.text l.known l.item;
}
