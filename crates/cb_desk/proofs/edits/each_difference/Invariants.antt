use Rattle.std.proofs.Common.{◌≤◌, ◌+◌, length}
use Rattle.cb_desk.proofs.EditLemmas.{Goes}
use Rattle.cb_desk.proofs.edits.each_difference.Given as goal

abbrev pub invariant-loop-step : goal.invariant-loop-step
invariant-loop-step l = record {
  goes : Goes l.edits.items l.kept l.olds l.news l.old l.new;
  room : l.kept + length l.olds ≤ length l.old;
}

abbrev pub decreases-loop-step : goal.decreases-loop-step
decreases-loop-step l = length l.olds + length l.news
