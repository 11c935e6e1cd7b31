use Rattle.std.proofs.Common.{◌≤◌}
use Rattle.cb_tags.proofs.Escapes.{Owes}
use Rattle.cb_tags.proofs.address.put_escaped.Given as goal

abbrev pub invariant-loop-i : goal.invariant-loop-i
invariant-loop-i g l =
    record { within : l.start ≤ l.i; written : Owes l.fn.out l.out l.text l.start l.i }
