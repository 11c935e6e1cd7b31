-- The scopes of the tokens up to here are known, and the statements of `for` that go on here.
use Rattle.std.proofs.Common.{ℕ, Bool, length}
use Rattle.cb_names.specs.Scopes.{for_before, scope_at}
use Rattle.cb_names.specs.Tables.{IsTable}
use Rattle.cb_names.proofs.scopes.scopes_of.Given as goal

abbrev pub invariant-loop-at : goal.invariant-loop-at
invariant-loop-at l = record {
  fors : IsTable (λ j. for_before l.shape.items.items l.shape.body j l.at) (length l.shape.items.items) l.fors.items;
  scopes : (is_list : ℕ → Bool) → IsTable is_list (length l.shape.items.items) l.lists
      → IsTable (scope_at is_list l.shape.items.items l.shape.body) l.at l.scopes.items;
}
