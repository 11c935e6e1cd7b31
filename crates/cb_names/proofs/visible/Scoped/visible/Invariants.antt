-- The first tokens are looked at.
use Rattle.std.proofs.Common.{◌≡◌}
use Rattle.cb_names.specs.Labels.{span}
use Rattle.cb_names.specs.Pairs.{at}
use Rattle.cb_names.specs.Tables.{those_where}
use Rattle.cb_names.specs.Visible.{is_visible}
use Rattle.cb_names.proofs.visible.Scoped.visible.Given as goal

abbrev pub invariant-loop-index : goal.invariant-loop-index
invariant-loop-index l =
    l.found.items ≡ those_where (λ d. span (at l.self.shape.now.items.items d))
    (is_visible l.self.shape.now.items.items l.self.name l.self.shape.now.body l.later) l.index
