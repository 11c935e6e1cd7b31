-- The first tokens are looked at.
use Rattle.std.proofs.Common.{◌≡◌}
use Rattle.cb_names.specs.FunctionNames.{is_unsure}
use Rattle.cb_names.specs.Labels.{span}
use Rattle.cb_names.specs.Pairs.{at}
use Rattle.cb_names.specs.Tables.{those_where}
use Rattle.cb_names.proofs.names.unsure_of.Given as goal

abbrev pub invariant-loop-at : goal.invariant-loop-at
invariant-loop-at l =
    l.found.items
    ≡ those_where (λ k. span (at l.shape.items.items k)) (is_unsure l.shape.items.items l.shape.body)
    l.at
