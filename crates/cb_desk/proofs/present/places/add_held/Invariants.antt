use Rattle.std.proofs.Common.{◌≡◌, ◌++◌, map}
use Rattle.cb_desk.specs.steps.Records.{held_by}
use Rattle.cb_desk.proofs.present.places.add_held.Given as goal

abbrev pub invariant-loop-line : goal.invariant-loop-line
invariant-loop-line l =
    l.made.items ++ map (λ n. record { name = l.name; line = n }) l.line-iterator
    ≡ l.fn.made.items ++ held_by l.fn.finder l.name l.source
