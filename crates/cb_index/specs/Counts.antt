-- How many rows the facts of one key have. Of the facts of a file whose rows are equal only the
-- first is shown. Rows of one key in one file are equal where they are on one line and have the
-- same name in the function column.
use Rattle.std.specs.Prelude.{ℕ, Bool, ◌&&◌, not, nat_eq, List, [], ◌∷◌, Option, Some, None, codes}
use Rattle.std.specs.Prelude.{length, map, filter, sum_by}
use Rattle.std.specs.List.{flat_map}
use Rattle.std.specs.Str.{bytes_eq}
use Rattle.cb_index.specs.Files.{File}
use Rattle.cb_index.specs.Rows.{Fact}
use Rattle.cb_index.specs.steps.Found.{fact_at}
use Rattle.cb_index.specs.steps.Spread.{items_from}
use Rattle.cb_index.specs.Scanned.{Scanned}
use Rattle.cb_index.specs.declared.entry.FactKind.{FactKind}
use Rattle.cb_index.specs.declared.entry.FactKind.TheVariants.{Uses, Callees, Callers}

-- the name in the function column; outside of functions and macros it is `<global>`
abbrev pub column : Option (List ℕ) → List ℕ
column None = codes "<global>"
column (Some name) = name

-- what the function column of a fact shows: of uses and of calls by the called name the name
-- around it, of calls by the name that calls its own name
abbrev pub function_of : FactKind → Fact → List ℕ
function_of Uses f = column f.scope
function_of Callees f = column f.scope
function_of Callers f = f.name

-- whether two facts of one key in one file have equal rows
abbrev pub same_row : FactKind → Fact → Fact → Bool
same_row sort f g = nat_eq f.line g.line && bytes_eq (function_of sort f) (function_of sort g)

-- of the facts with equal rows only the first
unfoldable pub unlike : FactKind → List Fact → List Fact
unlike sort [] = []
unlike sort (f ∷ fs) = f ∷ filter (λ g. not (same_row sort f g)) (unlike sort fs)

-- the facts of an item and of those behind it that have its key; the file name plays no part here
abbrev pub key_facts : FactKind → Scanned → ℕ → List Fact
key_facts sort text item = map (fact_at sort [] text) (items_from sort text item)

-- how many rows they have
unfoldable pub row_count : FactKind → Scanned → ℕ → ℕ
row_count sort text item = length (unlike sort (key_facts sort text item))

-- how many rows facts of one key have in files
abbrev pub rows_in_files : FactKind → (File → List Fact) → List File → ℕ
rows_in_files sort facts fs = sum_by (λ (f : File). length (unlike sort (facts f))) fs

-- and the facts of these rows
abbrev pub unlike_in_files : FactKind → (File → List Fact) → List File → List Fact
unlike_in_files sort facts fs = flat_map (λ (f : File). unlike sort (facts f)) fs
