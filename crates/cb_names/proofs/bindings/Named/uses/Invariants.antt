-- How far declarations are seen here, and the uses up to here.
use Rattle.std.proofs.Common.{◌≡◌, ◌+◌}
use Rattle.std.specs.Prelude.{◌&&◌}
use Rattle.cb_names.specs.Bindings.{is_bound_in, use_of}
use Rattle.cb_names.specs.Locals.{uses_where}
use Rattle.cb_names.specs.steps.Binding.{far, scope_by}
use Rattle.cb_names.specs.steps.Namings.{declares_of, named_of}
use Rattle.cb_names.proofs.bindings.Named.uses.Given as goal

abbrev pub invariant-loop-at : goal.invariant-loop-at
invariant-loop-at l = record {
  seen : l.far ≡ far (declares_of l.self) (scope_by l.self.scopes.now) l.first l.at;
  unseen : l.hidden ≡ far (declares_of l.self) (scope_by l.self.scopes.now) (l.first + 1) l.at;
  uses : l.uses.items ≡ uses_where
      (use_of l.self.shape.now.items.items (declares_of l.self) (scope_by l.self.scopes.now) l.first)
      (λ k. named_of l.self k && is_bound_in (declares_of l.self) (scope_by l.self.scopes.now) l.first k) l.at;
}
