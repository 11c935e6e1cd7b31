-- What is left decides.
use Rattle.std.proofs.Common.{◌≡◌, ◌-◌}
use Rattle.std.specs.List.{list_any, range_with_len}
use Rattle.cb_names.specs.FunctionNames.{is_lone_end}
use Rattle.cb_names.proofs.names.has_lone_end.Given as goal

abbrev pub invariant-loop-at : goal.invariant-loop-at
invariant-loop-at l =
    list_any (is_lone_end l.items) (range_with_len l.at (l.to - l.at))
    ≡ list_any (is_lone_end l.items) (range_with_len l.from (l.to - l.from))
