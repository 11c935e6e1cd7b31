use Rattle.std.proofs.Common.{◌∙◌, sym, ap}
use Rattle.cb_lsp.specs.Documents.{was_lost}
use Rattle.cb_lsp.specs.Models.{kept_in}
use Rattle.cb_lsp.proofs.DocumentPlaces.{found-document, none-noted, noted-at, unfound}
use Rattle.cb_lsp.proofs.documents.Documents.note.Goals as goal

pub returns-in-Some-clause-documents : goal.returns-in-Some-clause-documents
returns-in-Some-clause-documents c =
    noted-at (kept_in c.args.kept) c.args.lost c.args.name.now c.self.inside.open.items
    c.args.self.now c.in-Some.place c.index_mut-document.result.now c.note.new.self c.self.view_is
    c.in-Some.ensures
    c.index_mut-document.ensures.value c.note.ensures.document

pub returns-in-Some-clause-was : goal.returns-in-Some-clause-was
returns-in-Some-clause-was c =
    c.note.ensures.was ∙ ap was_lost (sym (found-document c.args.name.now
    c.self.inside.open.items c.args.self.now c.in-Some.place c.index_mut-document.result.now
    c.self.view_is c.in-Some.ensures
    c.index_mut-document.ensures.value))

pub returns-in-None-clause-documents : goal.returns-in-None-clause-documents
returns-in-None-clause-documents c =
    none-noted (kept_in c.args.kept) c.args.lost c.args.name.now c.args.self.now c.in-None.ensures

pub returns-in-None-clause-was : goal.returns-in-None-clause-was
returns-in-None-clause-was c =
    ap was_lost (sym (unfound c.args.name.now c.args.self.now (sym c.in-None.ensures)))
