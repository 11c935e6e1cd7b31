-- The first tokens are looked at.
use Rattle.std.proofs.Common.{◌≡◌}
use Rattle.cb_names.specs.SpacedNames.{is_name_spelled, spaced_at}
use Rattle.cb_names.specs.Tables.{those_where}
use Rattle.cb_names.proofs.spaced.spaced_in.Given as goal

abbrev pub invariant-loop-at : goal.invariant-loop-at
invariant-loop-at l =
    l.found.items ≡ those_where (spaced_at l.items) (is_name_spelled l.text l.items l.name) l.at
