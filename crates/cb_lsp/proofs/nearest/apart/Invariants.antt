use Rattle.std.proofs.Common.{◌≡◌, length}
use Rattle.cb_lsp.specs.Nearest.{apart}
use Rattle.cb_lsp.proofs.nearest.apart.Given as goal

abbrev pub invariant-bytes : goal.invariant-bytes
invariant-bytes l = apart l.one l.other ≡ apart l.fn.one l.fn.other

abbrev pub decreases-bytes : goal.decreases-bytes
decreases-bytes l = length l.one
