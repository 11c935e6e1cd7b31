use Rattle.std.proofs.Common.{◌∙◌, ap, sym}
use Rattle.cb_lsp.proofs.Headers.{once_without, without_dots-once}
use Rattle.cb_lsp.proofs.header.without_dots.Goals as goal

pub parts-preserved : goal.parts-preserved
parts-preserved c =
    ap (once_without c.parts.rest.now) c.in-Some.ensures
    ∙ sym (without_dots-once c.parts.rest.now) ∙ c.parts.invariant

pub returns : goal.returns
returns c =
    ap (once_without c.parts.rest.now) c.in_default.ensures
    ∙ sym (without_dots-once c.parts.rest.now) ∙ c.parts.invariant
