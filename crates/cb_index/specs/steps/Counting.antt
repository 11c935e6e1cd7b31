-- How the rows of one key are told apart, one fact after another.
use Rattle.std.specs.Prelude.{Bool, List, [], ◌∷◌, ◌++◌, if◌then◌else◌}
use Rattle.std.specs.List.{list_any}
use Rattle.cb_index.specs.Counts.{same_row}
use Rattle.cb_index.specs.Rows.{Fact}
use Rattle.cb_index.specs.declared.entry.FactKind.{FactKind}

-- whether the row of a fact is that of one of those that were seen
abbrev pub has_row : FactKind → List Fact → Fact → Bool
has_row sort seen f = list_any (λ g. same_row sort g f) seen

-- the facts whose row is that of none before them, nor of those that were seen
unfoldable pub fresh : FactKind → (seen facts : List Fact) → List Fact
fresh sort seen [] = []
fresh sort seen (f ∷ fs) =
    let later = fresh sort (seen ++ f ∷ []) fs in
    if has_row sort seen f then later else f ∷ later
