-- What is left decides.
use Rattle.std.proofs.Common.{◌≡◌}
use Rattle.std.specs.Prelude.{drop, find, nat_lt}
use Rattle.cb_scan.specs.declared.rules.scope.Range.{Range}
use Rattle.cb_names.proofs.names.function_behind.Given as goal

abbrev pub invariant-loop-i : goal.invariant-loop-i
invariant-loop-i l =
    find (λ (q : Range). nat_lt l.place q.name.start) (drop l.i l.ranges)
    ≡ find (λ (q : Range). nat_lt l.place q.name.start) l.ranges
