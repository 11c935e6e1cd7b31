use Rattle.std.proofs.Common.{◌∙◌, ap, map}
use Rattle.cb_tags.specs.TagLines.{tag_of}
use Rattle.cb_wire.specs.Values.{value_text}
use Rattle.cb_lsp.specs.Symbols.{place_of}
use Rattle.cb_lsp.specs.steps.Located.{Locating, client_in}
use Rattle.cb_lsp.proofs.Listed.{map-map}
use Rattle.cb_lsp.proofs.answers.FileAsked.put_rows.Goals as goal

pub returns : goal.returns
returns g c =
    let f = c.args.self.now in
    let place = place_of (client_in f.forms) f.desk.now.timeline.present.files in
    let found = map tag_of c.args.rows.now in
    c.put_list.ensures (map place found)
    (ap (λ (l : Locating). map (λ t. value_text (place_of l.client l.files t)) found) c.new.ensures
    ∙ map-map value_text place found)
