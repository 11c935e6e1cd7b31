-- From here it is the same.
use Rattle.std.proofs.Common.{◌≡◌, ◌-◌}
use Rattle.cb_names.specs.Declarators.{comma_from}
use Rattle.cb_names.proofs.declarators.Codes.comma_from.Given as goal

abbrev pub invariant-tokens : goal.invariant-tokens
invariant-tokens l = comma_from l.self.shape.now.items.items l.list l.end (l.end - l.step) l.left
    ≡ comma_from l.self.shape.now.items.items l.list l.end l.end l.index
