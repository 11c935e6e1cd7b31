use Rattle.std.proofs.Common.{◌≡◌, drop}
use Rattle.std.specs.Option.{option_map}
use Rattle.json.specs.Value.{items_view}
use Rattle.cb_lsp.specs.Changes.{text_by, text_from}
use Rattle.cb_lsp.specs.Params.{changes_among}
use Rattle.cb_lsp.proofs.change.text_by.Given as goal

abbrev pub invariant-changes : goal.invariant-changes
invariant-changes l =
    text_from l.encoding (option_map (λ t. t.now) l.before) l.new
    (changes_among (items_view (drop l.value-index l.changes)))
    ≡ text_by l.encoding (option_map (λ t. t.now) l.before)
    (changes_among (items_view l.changes))
