use Rattle.std.proofs.Common.{◌∙◌, map}
use Rattle.cb_names.specs.declared.local.LocalUse.{LocalUse}
use Rattle.cb_wire.specs.Values.{value_text}
use Rattle.cb_lsp.specs.Locals.{token_place, uses_wanted}
use Rattle.cb_lsp.proofs.local.LocalUsesElements.again.Goals as goal

pub returns : goal.returns
returns c =
    let s = c.args.self.now in
    let counts = c.new.ensures.encoding ∙ c.encoding.ensures in
    let reads = c.new.ensures.text ∙ c.source.ensures in
    λ i. map (λ (u : LocalUse). value_text
    (token_place s.root.now (counts i) s.file.now (reads i) u.name))
    (uses_wanted s.declarations s.rest.now)
