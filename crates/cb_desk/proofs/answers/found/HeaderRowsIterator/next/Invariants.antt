use Rattle.std.proofs.Common.{◌≡◌, length}
use Rattle.cb_index.specs.steps.Includes.{includes_left}
use Rattle.cb_desk.specs.steps.Lent.{headers_left}
use Rattle.cb_desk.proofs.answers.found.HeaderRowsIterator.next.Given as goal

abbrev pub decreases-loop-row : goal.decreases-loop-row
decreases-loop-row l = length (includes_left l.self.rest)

abbrev pub invariant-loop-row : goal.invariant-loop-row
invariant-loop-row l = headers_left l.self ≡ headers_left l.fn.self
