use Rattle.std.proofs.Common.{◌≡◌, length}
use Rattle.cb_lsp.specs.steps.References.{reached_left, references_left}
use Rattle.cb_lsp.proofs.references.ReferencesIterator.next.Given as goal

abbrev pub invariant-uses : goal.invariant-uses
invariant-uses l = references_left l.self ≡ references_left l.fn.self

abbrev pub decreases-uses : goal.decreases-uses
decreases-uses l = length (reached_left l.self.uses)
