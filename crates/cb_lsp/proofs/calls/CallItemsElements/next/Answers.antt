use Rattle.std.proofs.Common.{ap}
use Rattle.cb_wire.specs.Values.{value_text}
use Rattle.cb_lsp.specs.Calls.{item_of}
use Rattle.cb_lsp.specs.steps.Located.{Locating}
use Rattle.cb_lsp.proofs.TagRows.{rows-step}
use Rattle.cb_lsp.proofs.calls.CallItemsElements.next.Goals as goal

pub returns-in-len1-up : goal.returns-in-len1-up
returns-in-len1-up c =
    rows-step (λ (l : Locating) t. value_text (item_of l.client l.files t))
    c.args.self.now.places c.item.new.self c.item.ensures.same c.args.self.now.rest.now _ _
    c.in-len1-up.len_at_least (ap value_text c.item.ensures.item)
