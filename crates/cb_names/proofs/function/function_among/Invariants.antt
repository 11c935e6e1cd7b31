-- The first that reaches the place is that of what is left.
use Rattle.std.proofs.Common.{◌≡◌}
use Rattle.std.specs.Prelude.{drop, find, nat_le}
use Rattle.cb_scan.specs.declared.rules.scope.Range.{Range}
use Rattle.cb_names.proofs.function.function_among.Given as goal

abbrev pub invariant-loop-i : goal.invariant-loop-i
invariant-loop-i l =
    find (λ (r : Range). nat_le l.place r.end) (drop l.i l.ranges)
    ≡ find (λ (r : Range). nat_le l.place r.end) l.ranges
