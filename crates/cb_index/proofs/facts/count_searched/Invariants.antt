use Rattle.std.proofs.Common.{◌≡◌, ◌+◌, ◌*◌, ◌^◌, ◌≤◌, length}
use Rattle.std.specs.Prelude.{sum_by}
use Rattle.cb_index.specs.steps.Searched.{searched_count}
use Rattle.cb_index.specs.steps.ShownIn.{shown_in}
use Rattle.cb_index.proofs.facts.count_searched.Given as goal

abbrev pub invariant-loop-one : goal.invariant-loop-one
invariant-loop-one l = record {
  counted : l.count + sum_by (searched_count l.sort l.archive l.key) (shown_in l.left)
      ≡ sum_by (searched_count l.sort l.archive l.key) (shown_in l.shown);
  few : l.count + length (shown_in l.left) * 2 ^ 32 ≤ length (shown_in l.shown) * 2 ^ 32;
}

abbrev pub decreases-loop-one : goal.decreases-loop-one
decreases-loop-one l = length (shown_in l.left)
