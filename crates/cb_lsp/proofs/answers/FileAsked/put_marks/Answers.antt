use Rattle.std.proofs.Common.{◌∙◌, map}
use Rattle.cb_wire.specs.Values.{value_text}
use Rattle.cb_lsp.specs.Highlights.{highlight}
use Rattle.cb_lsp.proofs.Listed.{map-map}
use Rattle.cb_lsp.proofs.answers.FileAsked.put_marks.Goals as goal

pub returns : goal.returns
returns g c =
    let f = c.args.self.now in
    let mark = highlight f.forms.encoding f.source.now in
    let found = c.args.uses.now in
    c.put_list.ensures (map mark found)
    ((λ i. map (λ u. value_text (highlight (c.new.ensures.encoding i) (c.new.ensures.text i) u)) found)
    ∙ map-map value_text mark found)
