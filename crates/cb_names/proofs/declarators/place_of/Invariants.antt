-- It is among what is left, if it is among all.
use Rattle.std.proofs.Common.{◌≡◌}
use Rattle.std.specs.Prelude.{drop, find}
use Rattle.cb_names.specs.Declarators.{is_token}
use Rattle.cb_names.proofs.declarators.place_of.Given as goal

abbrev pub invariant-loop-i : goal.invariant-loop-i
invariant-loop-i l = find (is_token l.items l.token) (drop l._i l.places) ≡ find (is_token l.items l.token) l.places
