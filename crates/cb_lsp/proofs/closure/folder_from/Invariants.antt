use Rattle.std.proofs.Common.{◌≡◌, length}
use Rattle.cb_lsp.specs.Closures.{folder_from}
use Rattle.cb_lsp.proofs.closure.folder_from.Given as goal

abbrev pub invariant-parts : goal.invariant-parts
invariant-parts l = folder_from l.rest l.base ≡ folder_from l.header l.folder

abbrev pub decreases-parts : goal.decreases-parts
decreases-parts l = length l.rest
