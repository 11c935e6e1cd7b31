use Rattle.std.proofs.Common.{◌≡◌, length}
use Rattle.cb_index.specs.steps.Left.{entries_left}
use Rattle.cb_desk.specs.steps.Lent.{names_left}
use Rattle.cb_desk.proofs.answers.found.NameRowsIterator.next.Given as goal

abbrev pub decreases-loop-name : goal.decreases-loop-name
decreases-loop-name l = length (entries_left l.self.rest)

abbrev pub invariant-loop-name : goal.invariant-loop-name
invariant-loop-name l = names_left l.self ≡ names_left l.fn.self
