-- From here it is the same.
use Rattle.std.proofs.Common.{◌≡◌, ◌-◌, length}
use Rattle.cb_names.specs.Accesses.{behind_from, behind_indices}
use Rattle.cb_names.proofs.accesses.behind_indices.Given as goal

abbrev pub invariant-pairs : goal.invariant-pairs
invariant-pairs l = behind_from l.shape.items.items (length l.shape.items.items - l.step) l.left
    ≡ behind_indices l.shape.items.items l.index
