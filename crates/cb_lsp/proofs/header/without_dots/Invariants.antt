use Rattle.std.proofs.Common.{◌≡◌, length}
use Rattle.cb_lsp.specs.Headers.{without_dots}
use Rattle.cb_lsp.proofs.header.without_dots.Given as goal

abbrev pub invariant-parts : goal.invariant-parts
invariant-parts l = without_dots l.rest ≡ without_dots l.header

abbrev pub decreases-parts : goal.decreases-parts
decreases-parts l = length l.rest
