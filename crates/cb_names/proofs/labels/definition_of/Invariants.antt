-- The first label is that of what is left.
use Rattle.std.proofs.Common.{◌≡◌, ◌-◌, length}
use Rattle.std.specs.Prelude.{find}
use Rattle.std.specs.List.{range_with_len}
use Rattle.cb_names.specs.steps.Labelling.{defines}
use Rattle.cb_names.proofs.labels.definition_of.Given as goal

abbrev pub invariant-loop-j : goal.invariant-loop-j
invariant-loop-j l =
    find (defines l.text l.items l.starts l.k) (range_with_len l.j (length l.items - l.j))
    ≡ find (defines l.text l.items l.starts l.k) (range_with_len 0 (length l.items))
