-- What is left decides.
use Rattle.std.proofs.Common.{◌≡◌, length, map}
use Rattle.std.specs.Prelude.{find, not}
use Rattle.std.specs.Str.{bytes_eq}
use Rattle.cb_index.specs.Rows.{Fact}
use Rattle.cb_index.specs.steps.Left.{fact_of_spot}
use Rattle.cb_lsp.proofs.name_rename.other_file.Given as goal

abbrev pub invariant-spots : goal.invariant-spots
invariant-spots l =
    find (λ (u : Fact). not (bytes_eq u.file l.file)) (map fact_of_spot l.rest)
    ≡ find (λ (u : Fact). not (bytes_eq u.file l.file)) (map fact_of_spot l.spots)

abbrev pub decreases-spots : goal.decreases-spots
decreases-spots l = length l.rest
