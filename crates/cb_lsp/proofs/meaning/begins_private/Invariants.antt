use Rattle.std.proofs.Common.{◌≡◌, length}
use Rattle.cb_lsp.specs.steps.Meanings.{begins_private}
use Rattle.cb_lsp.proofs.meaning.begins_private.Given as goal

abbrev pub invariant-rows : goal.invariant-rows
invariant-rows l = begins_private l.file l.left ≡ begins_private l.file l.rows

abbrev pub decreases-rows : goal.decreases-rows
decreases-rows l = length l.left
