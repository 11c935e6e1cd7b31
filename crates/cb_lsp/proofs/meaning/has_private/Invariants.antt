use Rattle.std.proofs.Common.{◌≡◌, length}
use Rattle.cb_lsp.specs.Meaning.{has_private}
use Rattle.cb_lsp.proofs.meaning.has_private.Given as goal

abbrev pub invariant-rows : goal.invariant-rows
invariant-rows l = has_private l.file l.left ≡ has_private l.file l.rows

abbrev pub decreases-rows : goal.decreases-rows
decreases-rows l = length l.left
