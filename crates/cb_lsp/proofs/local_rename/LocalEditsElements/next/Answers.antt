use Rattle.std.proofs.Common.{◌∙◌, ◌∷◌, ap, false, map, sym}
use Rattle.json.specs.Json.{Json}
use Rattle.cb_names.specs.declared.local.LocalUse.{LocalUse}
use Rattle.cb_wire.specs.Edits.{edit_of, edit_text, file_texts}
use Rattle.cb_wire.specs.Uris.{uri_of}
use Rattle.cb_lsp.specs.Places.{range_of}
use Rattle.cb_lsp.proofs.LocalEdits.{next-local}
use Rattle.cb_lsp.proofs.local_rename.LocalEditsElements.next.Goals as goal

pub returns : goal.returns
returns c =
    let e = c.args.self.now in
    let uri = uri_of e.root.now e.file.now in
    let edit : LocalUse → Json = λ u.
    edit_of (range_of e.positions.encoding e.positions.text u.name.start u.name.end) e.new_name.now in
    let rest = c.in_ok-one.rest.now in
    let range = c.range-range.ensures in
    ap (λ us. file_texts e.opens uri (map edit us)) c.in_ok-one.ensures.cases.0
    ∙ next-local edit e.opens uri c.in_ok-one.one.now rest
    ∙ (λ i. edit_text e.opens (sym c.ends.ensures i) uri (edit_of (sym range.range i) e.new_name.now)
    ∷ file_texts false uri (map (λ (u : LocalUse). edit_of (range_of (sym range.encoding i) (sym range.text i)
    u.name.start u.name.end) e.new_name.now) rest))
