use Rattle.std.proofs.Common.{◌∙◌, map}
use Rattle.cb_wire.specs.Values.{value_text}
use Rattle.cb_lsp.specs.Highlights.{highlight}
use Rattle.cb_lsp.proofs.highlights.HighlightsElements.again.Goals as goal

pub returns : goal.returns
returns c =
    let counts = c.new.ensures.encoding ∙ c.encoding.ensures in
    let reads = c.new.ensures.text ∙ c.source.ensures in
    λ i. map (λ u. value_text (highlight (counts i) (reads i) u)) c.args.self.now.rest.now
