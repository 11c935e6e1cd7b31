-- How far declarations are seen here, and those up to here.
use Rattle.std.proofs.Common.{◌≡◌, ◌++◌}
use Rattle.cb_names.specs.steps.Binding.{far, scope_by}
use Rattle.cb_names.specs.steps.Namings.{declares_of, own_by}
use Rattle.cb_names.proofs.bindings.Named.push_own.Given as goal

abbrev pub invariant-loop-at : goal.invariant-loop-at
invariant-loop-at l = record {
  seen : l.far ≡ far (declares_of l.self) (scope_by l.self.scopes.now) 0 l.at;
  own : l.found.items ≡ l.fn.found.items ++ own_by l.self l.at;
}
