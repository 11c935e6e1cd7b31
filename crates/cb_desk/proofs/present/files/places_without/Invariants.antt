use Rattle.std.proofs.Common.{◌≡◌, take}
use Rattle.cb_desk.specs.steps.Plans.{places_without}
use Rattle.cb_desk.proofs.present.files.places_without.Given as goal

abbrev pub invariant-loop-place : goal.invariant-loop-place
invariant-loop-place l =
    l.kept.items ≡ places_without l.archive l.name (take l.place-index l.places)
