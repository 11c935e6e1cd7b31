use Rattle.std.proofs.Common.{◌∙◌, map}
use Rattle.cb_names.specs.declared.local.LocalUse.{LocalUse}
use Rattle.cb_wire.specs.Edits.{edit_of, file_texts}
use Rattle.cb_wire.specs.Uris.{uri_of}
use Rattle.cb_lsp.specs.Places.{range_of}
use Rattle.cb_lsp.proofs.local_rename.LocalEditsElements.again.Goals as goal

pub returns : goal.returns
returns c =
    let e = c.args.self.now in
    let counts = c.new.ensures.encoding ∙ c.encoding.ensures in
    let reads = c.new.ensures.text ∙ c.source.ensures in
    λ i. file_texts e.opens (uri_of e.root.now e.file.now) (map (λ (u : LocalUse). edit_of
    (range_of (counts i) (reads i) u.name.start u.name.end) e.new_name.now) e.rest.now)
