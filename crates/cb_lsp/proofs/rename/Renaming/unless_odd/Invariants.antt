-- What is left decides.
use Rattle.std.proofs.Common.{◌≡◌, length, map}
use Rattle.cb_index.specs.steps.Left.{fact_of_spot}
use Rattle.cb_lsp.specs.NameRenames.{unless_odd}
use Rattle.cb_lsp.specs.steps.Renames.{work_in}
use Rattle.cb_lsp.proofs.rename.Renaming.unless_odd.Given as goal

abbrev pub invariant-spots : goal.invariant-spots
invariant-spots l =
    unless_odd (work_in l.self).world (map fact_of_spot l.rest)
    ≡ unless_odd (work_in l.self).world (map fact_of_spot l.spots)

abbrev pub decreases-spots : goal.decreases-spots
decreases-spots l = length l.rest
