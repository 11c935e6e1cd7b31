use Rattle.std.proofs.Common.{map}
use Rattle.cb_tags.specs.TagLines.{tag_of}
use Rattle.cb_wire.specs.Values.{value_text}
use Rattle.cb_lsp.specs.Calls.{item_of}
use Rattle.cb_lsp.proofs.calls.CallItemsElements.again.Goals as goal

pub returns : goal.returns
returns c =
    λ i. map (λ t. value_text (item_of (c.again.ensures i).client (c.again.ensures i).files t))
    (map tag_of c.args.self.now.rest.now)
