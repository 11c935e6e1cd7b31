-- The first items of the keys of a text.
use Rattle.std.specs.Prelude.{ℕ, List, map, filter}
use Rattle.std.specs.List.{range_with_len}
use Rattle.cb_scan.specs.Keys.{key_prefix}
use Rattle.cb_index.specs.Counts.{row_count}
use Rattle.cb_index.specs.Held.{Listed}
use Rattle.cb_index.specs.Items.{is_first, item_count, item_key}
use Rattle.cb_index.specs.Scanned.{Scanned}
use Rattle.cb_index.specs.declared.entry.FactKind.{FactKind}

-- an item, with the prefix of its key, and how many rows it and those behind it of its key have
abbrev pub listed : FactKind → Scanned → ℕ → Listed
listed sort text item = record {
  number = item;
  prefix = key_prefix (item_key sort text item);
  rows = row_count sort text item;
}

-- the first items of all keys
abbrev pub firsts : FactKind → Scanned → List Listed
firsts sort text =
    map (listed sort text)
    (filter (is_first sort text) (range_with_len 0 (item_count sort text)))
