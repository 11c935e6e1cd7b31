use Rattle.std.proofs.Common.{◌≡◌, ◌++◌, length, map}
use Rattle.cb_lsp.specs.Calls.{called_at}
use Rattle.cb_lsp.specs.steps.Callers.{called_rows}
use Rattle.cb_lsp.specs.steps.References.{reached_left}
use Rattle.cb_lsp.proofs.callers.calls_reached.Given as goal

abbrev pub invariant-calls : goal.invariant-calls
invariant-calls l = record {
  made : called_rows l.rows.items
      ++ map (called_at l.places.client l.places.files) (reached_left l.rest)
      ≡ map (called_at l.initial.places.client l.initial.places.files)
      (reached_left l.initial.rest);
  same : l.places ≡ l.initial.places;
}

abbrev pub decreases-calls : goal.decreases-calls
decreases-calls l = length (reached_left l.rest)
