use Rattle.std.proofs.Common.{◌∙◌, map}
use Rattle.cb_wire.specs.Values.{value_text}
use Rattle.cb_lsp.specs.Locals.{local_mark}
use Rattle.cb_lsp.proofs.Listed.{map-map}
use Rattle.cb_lsp.proofs.answers.FileAsked.put_local_marks.Goals as goal

pub returns : goal.returns
returns g c =
    let f = c.args.self.now in
    let mark = local_mark f.forms.encoding f.source.now in
    let uses = c.args.uses.now in
    let counts = c.new-positions.ensures.encoding in
    let reads = c.new-positions.ensures.text in
    c.put_list.ensures (map mark uses)
    ((λ i. map (λ u. value_text (local_mark (counts i) (reads i) u)) uses)
    ∙ map-map value_text mark uses)
