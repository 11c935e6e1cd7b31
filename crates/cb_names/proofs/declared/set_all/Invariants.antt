-- What is left leads where all do.
use Rattle.std.proofs.Common.{◌≡◌}
use Rattle.std.specs.Prelude.{drop}
use Rattle.cb_names.specs.steps.Telling.{set_all}
use Rattle.cb_names.proofs.declared.set_all.Given as goal

abbrev pub invariant-loop-i : goal.invariant-loop-i
invariant-loop-i l = set_all l.flags.items (drop l._i l.indices) ≡ set_all l.initial.flags.items l.indices
