-- What is found and what is left are all.
use Rattle.std.proofs.Common.{◌≡◌, ◌-◌, suc}
use Rattle.cb_names.specs.Declarators.{both, found_in_parameters}
use Rattle.cb_names.proofs.declarators.Codes.push_parameters.Given as goal

abbrev pub invariant-parameters : goal.invariant-parameters
invariant-parameters l = both l.found (found_in_parameters l.self.shape.now.items.items l.list l.end (suc l.end - l.step) l.left)
    ≡ both l.initial.found (found_in_parameters l.self.shape.now.items.items l.list l.end (suc l.end) (suc l.list))
