use Rattle.std.proofs.Common.{◌≡◌, length}
use Rattle.cb_desk.specs.steps.Lent.{found_left}
use Rattle.cb_desk.specs.steps.LookBack.{IsLookBack, news_left}
use Rattle.cb_desk.proofs.answers.rows.next_new.Given as goal

abbrev pub decreases-loop-row : goal.decreases-loop-row
decreases-loop-row l = length (found_left l.left.rest)

abbrev pub invariant-loop-row : goal.invariant-loop-row
invariant-loop-row l =
    IsLookBack l.left × (news_left l.left ≡ news_left l.fn.left) × (l.left.all ≡ l.fn.left.all)
