use Rattle.std.proofs.Common.{◌≡◌, length}
use Rattle.cb_lsp.specs.Nearest.{has}
use Rattle.cb_lsp.proofs.nearest.has.Given as goal

abbrev pub invariant-rows : goal.invariant-rows
invariant-rows l = has l.kinds l.left ≡ has l.kinds l.rows

abbrev pub decreases-rows : goal.decreases-rows
decreases-rows l = length l.left
