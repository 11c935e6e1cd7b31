use Rattle.std.proofs.Common.{length}
use Rattle.cb_wire.specs.Lists.{with_separators}
use Rattle.cb_wire.proofs.Lists.{Left}
use Rattle.cb_wire.proofs.list.put_rest.Given as goal

abbrev pub invariant-elements : goal.invariant-elements
invariant-elements g l =
    Left l.fn.out l.out (with_separators l.between (g.I.Elements.texts l.left))
    (with_separators l.fn.between (g.I.Elements.texts l.fn.elements))

abbrev pub decreases-elements : goal.decreases-elements
decreases-elements g l = length (g.I.Elements.texts l.left)
