use Rattle.std.proofs.Common.{◌∙◌, ap, map}
use Rattle.cb_index.specs.steps.Left.{fact_of_spot}
use Rattle.cb_wire.specs.Values.{value_text}
use Rattle.cb_lsp.specs.Symbols.{place_of_use}
use Rattle.cb_lsp.specs.steps.Located.{Locating, client_in}
use Rattle.cb_lsp.proofs.Listed.{map-map}
use Rattle.cb_lsp.proofs.answers.FileAsked.put_spots.Goals as goal

pub returns : goal.returns
returns g c =
    let f = c.args.self.now in
    let place = place_of_use (client_in f.forms) f.desk.now.timeline.present.files in
    let found = map fact_of_spot c.args.spots.now in
    c.put_gathered.ensures (map place found)
    (ap (λ (l : Locating). map (λ u. value_text (place_of_use l.client l.files u)) found) c.new.ensures
    ∙ map-map value_text place found)
