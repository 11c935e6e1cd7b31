use Rattle.std.proofs.Common.{◌≡◌}
use Rattle.std.specs.Prelude.{nat_eq, take}
use Rattle.std.specs.List.{list_any}
use Rattle.cb_index.specs.Cells.{Cell}
use Rattle.cb_index.proofs.columns.any_near.Given as goal

abbrev pub invariant-loop-one : goal.invariant-loop-one
invariant-loop-one l =
    l.found ≡ list_any (λ (c : Cell). nat_eq c.hash l.hash) (take l.one-index l.cells)
