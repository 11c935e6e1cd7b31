-- The tokens up to here are looked at.
use Rattle.std.proofs.Common.{◌≡◌}
use Rattle.cb_names.specs.Locals.{uses_where}
use Rattle.cb_names.specs.steps.Labelling.{use_by, uses}
use Rattle.cb_names.proofs.labels.uses_of.Given as goal

abbrev pub invariant-loop-j : goal.invariant-loop-j
invariant-loop-j l = l.found.items ≡ uses_where (use_by l.items l.starts) (uses l.text l.items l.starts l.k) l.j
