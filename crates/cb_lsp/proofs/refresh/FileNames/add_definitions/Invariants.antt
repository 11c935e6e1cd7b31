use Rattle.std.proofs.Common.{◌≡◌, length, fold, map}
use Rattle.cb_index.specs.Rows.{tags_named}
use Rattle.cb_tags.specs.TagLines.{Tag}
use Rattle.cb_lsp.specs.Refresh.{with_file}
use Rattle.cb_lsp.proofs.refresh.FileNames.add_definitions.Given as goal

-- what is left leads to what all of them lead to
abbrev pub invariant-rows : goal.invariant-rows
invariant-rows l =
    fold with_file l.self (map (λ (row : Tag). row.file) l.rows)
    ≡ fold with_file l.fn.self (map (λ (row : Tag). row.file) (tags_named l.fn.desk.timeline.present.profile l.fn.name l.fn.desk.timeline.present.files))

abbrev pub decreases-rows : goal.decreases-rows
decreases-rows l = length l.rows
