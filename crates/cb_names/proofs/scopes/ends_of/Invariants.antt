-- It is known of the tokens up to here.
use Rattle.cb_names.specs.Scopes.{end_around}
use Rattle.cb_names.specs.Tables.{IsTable}
use Rattle.cb_names.proofs.scopes.ends_of.Given as goal

abbrev pub invariant-loop-at : goal.invariant-loop-at
invariant-loop-at l = IsTable (end_around l.shape.items.items) l.at l.ends.items
