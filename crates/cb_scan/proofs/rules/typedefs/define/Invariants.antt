-- What was given is the definitions of the names so far.
use Rattle.std.proofs.Common.{◌≡◌, ◌++◌, map, take}
use Rattle.cb_scan.specs.Definitions.{typedef_def}
use Rattle.cb_scan.proofs.rules.typedefs.define.Given as goal

abbrev pub invariant-loop-name : goal.invariant-loop-name
invariant-loop-name l = l.out.items ≡ l.fn.out.items ++ map typedef_def (take l.name-index l.names)
