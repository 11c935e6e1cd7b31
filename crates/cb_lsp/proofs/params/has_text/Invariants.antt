use Rattle.std.proofs.Common.{◌≡◌, drop}
use Rattle.json.specs.Value.{items_view}
use Rattle.cb_lsp.specs.Params.{has_text}
use Rattle.cb_lsp.proofs.params.has_text.Given as goal

abbrev pub invariant-values : goal.invariant-values
invariant-values l =
    has_text l.text (items_view (drop l.value-index l.values))
    ≡ has_text l.text (items_view l.values)
