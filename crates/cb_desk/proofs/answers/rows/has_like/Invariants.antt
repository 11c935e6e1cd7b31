use Rattle.std.proofs.Common.{◌≡◌, take}
use Rattle.std.specs.List.{list_any}
use Rattle.cb_desk.specs.steps.LookBack.{alike}
use Rattle.cb_desk.specs.steps.Lent.{found_left, spot_row}
use Rattle.cb_desk.proofs.answers.rows.has_like.Given as goal

abbrev pub invariant-loop-count : goal.invariant-loop-count
invariant-loop-count l =
    list_any (alike (spot_row l.row)) (take l.count (found_left l.left))
    ≡ list_any (alike (spot_row l.row)) (take l.fn.count (found_left l.fn.rows))
