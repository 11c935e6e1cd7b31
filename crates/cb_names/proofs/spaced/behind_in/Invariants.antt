-- The first tokens are looked at.
use Rattle.std.proofs.Common.{◌≡◌}
use Rattle.cb_names.specs.SpacedNames.{behind_at, is_behind_name}
use Rattle.cb_names.specs.Tables.{those_where}
use Rattle.cb_names.proofs.spaced.behind_in.Given as goal

abbrev pub invariant-loop-at : goal.invariant-loop-at
invariant-loop-at l =
    l.found.items
    ≡ those_where (behind_at l.text l.items l.parameter) (is_behind_name l.text l.items l.name) l.at
