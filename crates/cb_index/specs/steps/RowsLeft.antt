-- What an iterator of rows still gives.
use Rattle.std.specs.Prelude.{ℕ, List, [], ◌∷◌, ◌++◌, Option, Some, None, map}
use Rattle.cb_index.specs.steps.Chains.{chain_left}
use Rattle.cb_index.specs.steps.Runs.{run_items}
use Rattle.cb_index.specs.steps.Spread.{row_of, rows_in}
use Rattle.cb_index.specs.declared.sorted.EntryRows.{EntryRows}
use Rattle.cb_index.specs.declared.sorted.Items.{Items}
use Rattle.cb_index.specs.declared.sorted.Items.TheVariants.{Nothing, One, Chain}
use Rattle.cb_index.specs.declared.sorted.Rows.{Rows}
use Rattle.cb_index.specs.declared.sorted.Row.{Row}

abbrev pub items_left : Items → List ℕ
items_left Nothing = []
items_left (One item) = item ∷ []
items_left (Chain items) = chain_left items

abbrev pub entry_rows : EntryRows → List Row
entry_rows r = map (row_of r.entry) (items_left r.items)

abbrev pub entry_rows_if : Option EntryRows → List Row
entry_rows_if None = []
entry_rows_if (Some r) = entry_rows r

abbrev pub rows_left : Rows → List Row
rows_left r = entry_rows_if r.first ++ rows_in r.sort r.archive.now (run_items r.entries)
