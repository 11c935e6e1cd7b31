use Rattle.std.proofs.Common.{map}
use Rattle.cb_wire.specs.Values.{value_text}
use Rattle.cb_lsp.specs.Outgoing.{called_calls, cut_calls}
use Rattle.cb_lsp.specs.steps.Outgoing.{called_rows}
use Rattle.cb_lsp.proofs.outgoing.OutgoingElements.again.Goals as goal

pub returns : goal.returns
returns c = λ i. map
    (λ d. value_text (called_calls (c.again.ensures i).client (c.again.ensures i).files d))
    (cut_calls c.args.self.now.left (called_rows c.args.self.now.rest.now))
