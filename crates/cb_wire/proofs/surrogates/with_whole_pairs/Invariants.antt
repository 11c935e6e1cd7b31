use Rattle.std.proofs.Common.{◌≡◌, ◌++◌, length}
use Rattle.cb_wire.specs.Surrogates.{with_whole_pairs}
use Rattle.cb_wire.proofs.surrogates.with_whole_pairs.Given as goal

abbrev pub invariant-fronts : goal.invariant-fronts
invariant-fronts l = l.text.items ++ with_whole_pairs l.rest ≡ with_whole_pairs l.body

abbrev pub decreases-fronts : goal.decreases-fronts
decreases-fronts l = length l.rest
