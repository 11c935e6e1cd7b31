-- Of the declarations up to here.
use Rattle.std.proofs.Common.{◌≡◌}
use Rattle.cb_names.specs.Bindings.{seen_before}
use Rattle.cb_names.specs.steps.Binding.{scope_by}
use Rattle.cb_names.specs.steps.Namings.{declares_of}
use Rattle.cb_names.proofs.bindings.Named.binding.Given as goal

abbrev pub invariant-loop-at : goal.invariant-loop-at
invariant-loop-at l = l.found ≡ seen_before (declares_of l.self) (scope_by l.self.scopes.now) l.index l.at
