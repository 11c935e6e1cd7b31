-- Entries spread out into their rows.
use Rattle.std.specs.Prelude.{ℕ, List, [], ◌∷◌, Option, Some, None, map}
use Rattle.std.specs.List.{flat_map}
use Rattle.cb_index.specs.Archived.{Archived, text_at}
use Rattle.cb_index.specs.Items.{later}
use Rattle.cb_index.specs.Scanned.{Scanned}
use Rattle.cb_index.specs.declared.entry.Posting.{Posting}
use Rattle.cb_index.specs.declared.sorted.Row.{Row}
use Rattle.cb_index.specs.declared.entry.FactKind.{FactKind}

-- an item and those behind it that have its key
abbrev pub items_from : FactKind → Scanned → ℕ → List ℕ
items_from sort text item = item ∷ later sort text item

-- the same in a text, if it is there
abbrev pub items_in_text : FactKind → ℕ → Option Scanned → List ℕ
items_in_text sort item None = []
items_in_text sort item (Some text) = items_from sort text item

-- the items of an entry: of a definition its number, of a use or a call also those behind it that
-- have its key
abbrev pub items_at : Option FactKind → Archived → Posting → List ℕ
items_at None a e = e.number ∷ []
items_at (Some sort) a e = items_in_text sort e.number (text_at a e.version)

-- an item of an entry as a row
abbrev pub row_of : Posting → ℕ → Row
row_of e item = record { name = e.name; version = e.version; item = item }

abbrev pub rows_at : Option FactKind → Archived → Posting → List Row
rows_at sort a e = map (row_of e) (items_at sort a e)

abbrev pub rows_in : Option FactKind → Archived → List Posting → List Row
rows_in sort a es = flat_map (rows_at sort a) es
