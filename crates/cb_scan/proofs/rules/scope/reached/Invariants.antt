-- What is left is reached as all is.
use Rattle.std.proofs.Common.{◌≡◌, drop}
use Rattle.cb_scan.specs.steps.Scopes.{reached}
use Rattle.cb_scan.proofs.rules.scope.reached.Given as goal

abbrev pub invariant-loop-i : goal.invariant-loop-i
invariant-loop-i l = reached l.place (drop l.i l.ranges) ≡ reached l.place l.ranges
