use Rattle.std.proofs.Common.{◌≡◌, length, fold, map, true}
use Rattle.cb_index.specs.Rows.{Fact}
use Rattle.cb_lsp.specs.Refresh.{files_of_uses, with_file}
use Rattle.cb_lsp.proofs.refresh.FileNames.add_uses.Given as goal

-- what is left leads to what all of them lead to
abbrev pub invariant-rows : goal.invariant-rows
invariant-rows l =
    fold with_file l.self (map (λ (row : Fact). row.file) l.rows)
    ≡ fold with_file l.fn.self (files_of_uses l.fn.desk.timeline.present l.fn.name true)

abbrev pub decreases-rows : goal.decreases-rows
decreases-rows l = length l.rows
