-- The ends are known from the last token down to here.
use Rattle.std.proofs.Common.{◌≤◌, length}
use Rattle.cb_names.specs.Scopes.{first_end, for_end}
use Rattle.cb_names.specs.Tables.{IsTable}
use Rattle.cb_names.specs.steps.Scoping.{from_index}
use Rattle.cb_names.proofs.scopes.for_ends_of.Given as goal

abbrev pub invariant-tokens : goal.invariant-tokens
invariant-tokens l = record {
  firsts : IsTable (λ j. first_end l.shape.items.items l.shape.body j l.left) (length l.shape.items.items) l.firsts.items;
  ends : IsTable (from_index (for_end l.shape.items.items l.shape.body) l.left) (length l.shape.items.items) l.ends.items;
  within : l.left ≤ length l.shape.items.items;
}

abbrev pub decreases-tokens : goal.decreases-tokens
decreases-tokens l = l.left
