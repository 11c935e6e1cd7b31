-- The last one is that of what is left, or the one that was found.
use Rattle.std.proofs.Common.{◌≡◌, length}
use Rattle.std.specs.Option.{option_or}
use Rattle.cb_lsp.specs.Parameters.{macro_by}
use Rattle.cb_lsp.proofs.parameter.macro_by.Given as goal

abbrev pub invariant-defs : goal.invariant-defs
invariant-defs l = option_or (macro_by l.place l.rest) l.found ≡ macro_by l.place l.defs

abbrev pub decreases-defs : goal.decreases-defs
decreases-defs l = length l.rest
