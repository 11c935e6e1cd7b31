-- What is left decides.
use Rattle.std.proofs.Common.{◌≡◌, length}
use Rattle.std.specs.List.{list_any}
use Rattle.cb_index.specs.Rows.{tags_named}
use Rattle.cb_tags.specs.TagLines.{Tag}
use Rattle.cb_lsp.specs.Parameters.{is_macro}
use Rattle.cb_lsp.proofs.name_rename.has_macro.Given as goal

abbrev pub invariant-rows : goal.invariant-rows
invariant-rows l =
    list_any (λ (t : Tag). is_macro t.kind) l.left
    ≡ list_any (λ (t : Tag). is_macro t.kind) (tags_named l.desk.timeline.present.profile l.name
    l.desk.timeline.present.files)

abbrev pub decreases-rows : goal.decreases-rows
decreases-rows l = length l.left
