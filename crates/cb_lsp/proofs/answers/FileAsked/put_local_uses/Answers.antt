use Rattle.std.proofs.Common.{◌∙◌, map}
use Rattle.cb_wire.specs.Values.{value_text}
use Rattle.cb_names.specs.declared.local.LocalUse.{LocalUse}
use Rattle.cb_lsp.specs.Locals.{token_place, uses_wanted}
use Rattle.cb_lsp.proofs.Listed.{map-map}
use Rattle.cb_lsp.proofs.answers.FileAsked.put_local_uses.Goals as goal

pub returns : goal.returns
returns g c =
    let f = c.args.self.now in
    let root = f.forms.root.now in
    let at = λ (u : LocalUse). token_place root f.forms.encoding f.name.now f.source.now u.name in
    let wanted = uses_wanted c.args.declarations c.args.uses.now in
    let counts = c.new-positions.ensures.encoding in
    let reads = c.new-positions.ensures.text in
    c.put_list.ensures (map at wanted)
    ((λ i. map (λ (u : LocalUse). value_text
    (token_place root (counts i) f.name.now (reads i) u.name)) wanted)
    ∙ map-map value_text at wanted)
