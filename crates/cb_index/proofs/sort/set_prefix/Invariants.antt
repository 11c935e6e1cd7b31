use Rattle.std.proofs.Common.{◌≡◌, ◌++◌, drop, map, take}
use Rattle.cb_index.specs.steps.Quick.{with_prefix}
use Rattle.cb_index.proofs.sort.set_prefix.Given as goal

abbrev pub invariant-loop-entry : goal.invariant-loop-entry
invariant-loop-entry l =
    l.entries ≡ map (with_prefix l.prefix) (take l.entry-index l.initial.entries)
    ++ drop l.entry-index l.initial.entries
