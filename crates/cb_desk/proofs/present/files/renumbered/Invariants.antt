use Rattle.std.proofs.Common.{◌≡◌, map, take}
use Rattle.cb_desk.specs.steps.Plans.{renumbered}
use Rattle.cb_desk.proofs.present.files.renumbered.Given as goal

abbrev pub invariant-loop-place : goal.invariant-loop-place
invariant-loop-place l =
    l.made.items ≡ map (renumbered l.archive l.name l.number) (take l.place-index l.places)
