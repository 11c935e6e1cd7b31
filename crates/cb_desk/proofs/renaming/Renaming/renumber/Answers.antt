use Rattle.std.proofs.Common.{rules}
use Rattle.std.proofs.lemmas.List.Edits.{map_over_more}
use Rattle.cb_desk.specs.steps.Edits.{with_number}
use Rattle.cb_desk.proofs.renaming.Renaming.renumber.Goals as goal

pub loop-place-preserved : goal.loop-place-preserved
loop-place-preserved c =
    rw c.with_number.ensures
    (map_over_more (with_number c.args.self) c.args.places.now c.loop-place.places
    c.loop-place.place-index _ c.loop-place-test.true c.loop-place.invariant (search rules))
