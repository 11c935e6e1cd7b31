-- The first token is that of what is left.
use Rattle.std.proofs.Common.{◌≡◌, ◌-◌, length}
use Rattle.std.specs.Prelude.{find}
use Rattle.std.specs.List.{range_with_len}
use Rattle.cb_names.specs.Parameters.{declared_at, declares_same}
use Rattle.cb_names.proofs.parameter.declared_at.Given as goal

abbrev pub invariant-loop-j : goal.invariant-loop-j
invariant-loop-j l =
    find (declares_same l.text l.items l.k) (range_with_len l.j (length l.items - l.j))
    ≡ declared_at l.text l.items l.k
