-- Those up to here.
use Rattle.std.proofs.Common.{◌≡◌, map, take}
use Rattle.cb_names.specs.declared.word.Item.{Item}
use Rattle.cb_names.proofs.declarators.codes_of.Given as goal

abbrev pub invariant-loop-i : goal.invariant-loop-i
invariant-loop-i l = l.codes.items ≡ map (λ (x : Item). x.token) (take l.i l.items)
