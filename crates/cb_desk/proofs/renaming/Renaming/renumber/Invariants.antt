use Rattle.std.proofs.Common.{◌≡◌, ◌++◌, drop, map, take}
use Rattle.cb_desk.specs.steps.Edits.{with_number}
use Rattle.cb_desk.proofs.renaming.Renaming.renumber.Given as goal

abbrev pub invariant-loop-place : goal.invariant-loop-place
invariant-loop-place l =
    l.places ≡ map (with_number l.self) (take l.place-index l.initial.places)
    ++ drop l.place-index l.initial.places
