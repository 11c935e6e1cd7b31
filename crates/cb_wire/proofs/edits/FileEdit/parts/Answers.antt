use Rattle.cb_wire.specs.Uris.{uri_of}
use Rattle.cb_wire.proofs.EditTexts.{edit-parts}
use Rattle.cb_wire.proofs.edits.FileEdit.parts.Goals as goal

pub returns : goal.returns
returns c =
    let e = c.args.self.now in
    edit-parts e.opens e.closes (uri_of e.location.root.now e.location.name.now) e.new_text.now
    _ _ _ _ e.location.range c.part_if.ensures c.part_if-2.ensures c.part_if-3.ensures
    c.part_if-4.ensures
