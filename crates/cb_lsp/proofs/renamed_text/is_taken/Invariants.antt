-- What is left decides.
use Rattle.std.proofs.Common.{◌≡◌, length}
use Rattle.std.specs.List.{list_any}
use Rattle.cb_tags.specs.TagLines.{Tag}
use Rattle.cb_lsp.specs.LocalRenames.{is_macro_or_type, is_taken}
use Rattle.cb_lsp.proofs.renamed_text.is_taken.Given as goal

abbrev pub invariant-rows : goal.invariant-rows
invariant-rows l = list_any (λ (t : Tag). is_macro_or_type t.kind) l.left ≡ is_taken l.desk.timeline.present l.name

abbrev pub decreases-rows : goal.decreases-rows
decreases-rows l = length l.left
