use Rattle.std.proofs.Common.{◌≡◌, length}
use Rattle.cb_lsp.specs.Alike.{has_lone_return}
use Rattle.cb_lsp.proofs.alike.has_lone_return.Given as goal

abbrev pub invariant-bytes : goal.invariant-bytes
invariant-bytes l = has_lone_return l.rest ≡ has_lone_return l.text

abbrev pub decreases-bytes : goal.decreases-bytes
decreases-bytes l = length l.rest
