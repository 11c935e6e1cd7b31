-- The first tokens are looked at.
use Rattle.std.proofs.Common.{◌≡◌}
use Rattle.cb_names.specs.FunctionNames.{is_lone}
use Rattle.cb_names.specs.Labels.{span}
use Rattle.cb_names.specs.Pairs.{at}
use Rattle.cb_names.specs.Tables.{those_where}
use Rattle.cb_names.proofs.names.lone_of.Given as goal

abbrev pub invariant-loop-at : goal.invariant-loop-at
invariant-loop-at l = l.found.items ≡ those_where (λ k. span (at l.items k)) (is_lone l.items) l.at
