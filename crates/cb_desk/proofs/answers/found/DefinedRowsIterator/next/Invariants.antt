use Rattle.std.proofs.Common.{◌≡◌, length}
use Rattle.cb_index.specs.steps.Left.{tags_left}
use Rattle.cb_desk.specs.steps.Lent.{defined_left}
use Rattle.cb_desk.proofs.answers.found.DefinedRowsIterator.next.Given as goal

abbrev pub decreases-loop-row : goal.decreases-loop-row
decreases-loop-row l = length (tags_left l.self.rest)

abbrev pub invariant-loop-row : goal.invariant-loop-row
invariant-loop-row l = defined_left l.self ≡ defined_left l.fn.self
