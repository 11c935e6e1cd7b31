use Rattle.std.proofs.Common.{◌≡◌, drop}
use Rattle.json.specs.Value.{items_view}
use Rattle.cb_lsp.specs.Params.{are_changes}
use Rattle.cb_lsp.proofs.params.are_changes.Given as goal

abbrev pub invariant-values : goal.invariant-values
invariant-values l =
    are_changes (items_view (drop l.value-index l.values)) ≡ are_changes (items_view l.values)
