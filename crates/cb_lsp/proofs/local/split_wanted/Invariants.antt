use Rattle.std.proofs.Common.{◌≡◌, length}
use Rattle.cb_lsp.specs.Locals.{uses_wanted}
use Rattle.cb_lsp.proofs.local.split_wanted.Given as goal

abbrev pub invariant-uses : goal.invariant-uses
invariant-uses l = uses_wanted l.fn.declarations l.rest ≡ uses_wanted l.fn.declarations l.fn.uses

abbrev pub decreases-uses : goal.decreases-uses
decreases-uses l = length l.rest
