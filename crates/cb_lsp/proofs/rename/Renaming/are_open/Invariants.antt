use Rattle.std.proofs.Common.{◌≡◌, length}
use Rattle.cb_lsp.specs.Renames.{are_open}
use Rattle.cb_lsp.specs.steps.Same.{spots_left}
use Rattle.cb_lsp.specs.steps.Renames.{work_in}
use Rattle.cb_lsp.proofs.rename.Renaming.are_open.Given as goal

abbrev pub invariant-uses : goal.invariant-uses
invariant-uses l =
    are_open (work_in l.fn.self).documents (spots_left l.fn.uses)
    ≡ are_open (work_in l.fn.self).documents (spots_left l.left)

abbrev pub decreases-uses : goal.decreases-uses
decreases-uses l = length (spots_left l.left)
