-- What a search for a key finds in files.
use Rattle.std.specs.Prelude.{ℕ, Bool, false, List, [], Option, None, Some, map, filter, length}
use Rattle.std.specs.List.{range_with_len}
use Rattle.std.specs.Str.{bytes_eq}
use Rattle.cb_index.specs.Archived.{Archived, name_of, text_at}
use Rattle.cb_index.specs.Items.{item_count, item_key}
use Rattle.cb_index.specs.Rows.{Fact}
use Rattle.cb_index.specs.steps.Found.{fact_at}
use Rattle.cb_index.specs.steps.Given.{gives}
use Rattle.cb_index.specs.Scanned.{Scanned}
use Rattle.cb_index.specs.declared.entry.Shown.{Shown}
use Rattle.cb_index.specs.declared.entry.FactKind.{FactKind}

-- the items of a text that have a key
abbrev pub items_with : FactKind → Scanned → List ℕ → List ℕ
items_with sort text key =
    filter (λ item. bytes_eq key (item_key sort text item))
    (range_with_len 0 (item_count sort text))

-- their facts: of all, or of those that are no repeats
abbrev pub searched_in_text : Bool → FactKind → List ℕ → List ℕ → Option Scanned → List Fact
searched_in_text all sort file key None = []
searched_in_text all sort file key (Some text) =
    map (fact_at sort file text) (filter (gives all sort text) (items_with sort text key))

abbrev pub searched_at : Bool → FactKind → Archived → List ℕ → Shown → List Fact
searched_at all sort a key s =
    searched_in_text all sort (name_of a s.name) key (text_at a s.version)

-- how many rows they have
abbrev pub searched_count : FactKind → Archived → List ℕ → Shown → ℕ
searched_count sort a key s = length (searched_at false sort a key s)
