-- The first tokens are looked at.
use Rattle.std.proofs.Common.{◌≡◌}
use Rattle.cb_names.specs.FunctionNames.{arguments_at, has_arguments}
use Rattle.cb_names.specs.Tables.{those_where}
use Rattle.cb_names.proofs.names.arguments_of.Given as goal

abbrev pub invariant-loop-at : goal.invariant-loop-at
invariant-loop-at l = l.found.items ≡ those_where (arguments_at l.items) (has_arguments l.items) l.at
