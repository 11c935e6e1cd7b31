-- The tokens up to here are looked at.
use Rattle.std.proofs.Common.{◌≡◌}
use Rattle.cb_names.specs.Locals.{uses_where}
use Rattle.cb_names.specs.Parameters.{names_same, parameter_use}
use Rattle.cb_names.proofs.parameter.uses_of.Given as goal

abbrev pub invariant-loop-j : goal.invariant-loop-j
invariant-loop-j l =
    l.uses.items ≡ uses_where (parameter_use l.text l.shape.items.items l.k)
    (names_same l.text l.shape.items.items l.k) l.j
