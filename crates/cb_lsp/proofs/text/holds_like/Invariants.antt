use Rattle.std.proofs.Common.{◌≡◌, length}
use Rattle.cb_lsp.specs.Likes.{holds_like}
use Rattle.cb_lsp.proofs.text.holds_like.Given as goal

abbrev pub invariant-places : goal.invariant-places
invariant-places l = holds_like l.part l.rest ≡ holds_like l.part l.text

abbrev pub decreases-places : goal.decreases-places
decreases-places l = length l.rest
