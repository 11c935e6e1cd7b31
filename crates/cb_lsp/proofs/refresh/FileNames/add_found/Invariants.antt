use Rattle.std.proofs.Common.{◌≡◌, fold, take}
use Rattle.cb_lsp.specs.Refresh.{files_of_tags, with_file}
use Rattle.cb_lsp.specs.Searches.{found_by}
use Rattle.cb_lsp.specs.steps.Elements.{found_left}
use Rattle.cb_lsp.proofs.refresh.FileNames.add_found.Given as goal

-- what is left leads to what all of them lead to
abbrev pub invariant-rows : goal.invariant-rows
invariant-rows l =
    fold with_file l.self (files_of_tags (take l.left (found_left l.rows)))
    ≡ fold with_file l.fn.self (files_of_tags (found_by l.fn.desk.timeline.present l.fn.query))

abbrev pub decreases-rows : goal.decreases-rows
decreases-rows l = l.left
