use Rattle.std.proofs.Common.{◌≡◌, length}
use Rattle.cb_lsp.specs.steps.References.{reached_left}
use Rattle.cb_lsp.proofs.reach.ReachedIterator.next.Given as goal

abbrev pub invariant-uses : goal.invariant-uses
invariant-uses l = reached_left l.self ≡ reached_left l.fn.self

abbrev pub decreases-uses : goal.decreases-uses
decreases-uses l = length l.self.rest
