-- What is made and what is still to come are all.
use Rattle.std.proofs.Common.{◌≡◌, ◌++◌, drop}
use Rattle.cb_scan.specs.steps.Scopes.{include_place, scoped, include_with}
use Rattle.cb_scan.proofs.rules.scope.scoped_includes.Given as goal

abbrev pub invariant-loop-include : goal.invariant-loop-include
invariant-loop-include l =
    l.includes.items ++ scoped include_place include_with l.scopes.functions l.scopes.macros
    (drop l.include-index l.found)
    ≡ scoped include_place include_with l.ranges.functions.now l.ranges.macros.now l.found
