-- What is left decides.
use Rattle.std.proofs.Common.{◌≡◌, length, map}
use Rattle.cb_index.specs.Rows.{tags_named}
use Rattle.cb_index.specs.steps.Left.{fact_of_spot}
use Rattle.cb_lsp.specs.NameRenames.{unless_kept}
use Rattle.cb_lsp.specs.steps.Renames.{work_in}
use Rattle.cb_lsp.proofs.rename.Renaming.unless_kept.Given as goal

abbrev pub invariant-rows : goal.invariant-rows
invariant-rows l =
    unless_kept l.sort l.left (map fact_of_spot l.spots)
    ≡ unless_kept l.sort (tags_named (work_in l.self).world.profile l.name (work_in l.self).world.files)
    (map fact_of_spot l.spots)

abbrev pub decreases-rows : goal.decreases-rows
decreases-rows l = length l.left
