-- The tokens up to here are told.
use Rattle.std.proofs.Common.{ℕ, Bool, length}
use Rattle.std.specs.Prelude.{◌||◌}
use Rattle.cb_names.specs.Scoped.{is_bare, is_enumerator}
use Rattle.cb_names.specs.Tables.{IsTable}
use Rattle.cb_names.proofs.declared.Told.names.Given as goal

abbrev pub invariant-loop-at : goal.invariant-loop-at
invariant-loop-at l = (f : ℕ → Bool) → IsTable f (length l.self.shape.now.items.items) l.found
    → IsTable (λ k. f k || is_bare l.self.shape.now.items.items l.self.own l.self.shape.now.body k
    || is_enumerator l.self.shape.now.items.items l.self.shape.now.body k) l.at l.names.items
