use Rattle.std.proofs.Common.{length}
use Rattle.cb_lsp.specs.steps.Located.{client_in}
use Rattle.cb_lsp.specs.steps.Same.{spots_left}
use Rattle.cb_lsp.specs.steps.Renames.{work_in}
use Rattle.cb_lsp.proofs.Unedited.{EditedSo}
use Rattle.cb_lsp.proofs.rename.Renaming.first_unedited.Given as goal

abbrev pub invariant-uses : goal.invariant-uses
invariant-uses g l =
    EditedSo (g.D.Disk.finds l.fn.disk) (client_in l.fn.self.asked.forms) (work_in l.fn.self)
    l.all_open (spots_left l.fn.uses) (spots_left l.left) l.opens

abbrev pub decreases-uses : goal.decreases-uses
decreases-uses g l = length (spots_left l.left)
