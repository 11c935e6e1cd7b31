-- What is made and what is still to come are all.
use Rattle.std.proofs.Common.{◌≡◌, ◌++◌, drop}
use Rattle.cb_scan.specs.steps.Scopes.{token_place, scoped, use_of}
use Rattle.cb_scan.proofs.rules.scope.scoped_uses.Given as goal

abbrev pub invariant-loop-token : goal.invariant-loop-token
invariant-loop-token l =
    l.uses.items ++ scoped token_place use_of l.scopes.functions l.scopes.macros (drop l.token-index l.names)
    ≡ scoped token_place use_of l.ranges.functions.now l.ranges.macros.now l.names
