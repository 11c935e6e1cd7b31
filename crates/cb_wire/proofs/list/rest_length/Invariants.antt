use Rattle.std.proofs.Common.{◌≡◌, ◌≤◌, ◌+◌, ◌*◌, ◌^◌, length}
use Rattle.cb_wire.specs.Lists.{with_separators}
use Rattle.cb_wire.proofs.list.rest_length.Given as goal

abbrev pub invariant-elements : goal.invariant-elements
invariant-elements g l = record {
  value : l.total + length (with_separators l.between (g.I.Elements.texts l.left))
      ≡ length (with_separators l.fn.between (g.I.Elements.texts l.fn.elements));
  few : l.total + 2 ^ 78 * length (g.I.Elements.texts l.left) ≤ 2 ^ 126;
}

abbrev pub decreases-elements : goal.decreases-elements
decreases-elements g l = length (g.I.Elements.texts l.left)
