use Rattle.std.proofs.Common.{◌∙◌, sym, ap, refl}
use Rattle.cb_lsp.specs.Documents.{Document, kept_text}
use Rattle.cb_lsp.specs.steps.Noted.{text_again}
use Rattle.cb_lsp.proofs.DocumentPlaces.{found-document, gone-at, kept-all, unfound}
use Rattle.cb_lsp.proofs.documents.Documents.close.Goals as goal

pub returns-in_err-place-clause-documents : goal.returns-in_err-place-clause-documents
returns-in_err-place-clause-documents c =
    sym (kept-all c.args.name.now c.args.self.now
    (unfound c.args.name.now c.args.self.now (sym c.in_err-place.ensures)))

pub returns-in_err-place-clause-text : goal.returns-in_err-place-clause-text
returns-in_err-place-clause-text c =
    rw (c.from_residual.ensures, unfound c.args.name.now c.args.self.now (sym c.in_err-place.ensures))
    refl

pub returns-clause-documents : goal.returns-clause-documents
returns-clause-documents c =
    c.remove-document.ensures.items
    ∙ gone-at c.args.name.now c.self.inside.open.items c.args.self.now c.in_ok-place.place
    c.self.view_is c.in_ok-place.ensures

pub returns-clause-text : goal.returns-clause-text
returns-clause-text c =
    c.text.ensures ∙ ap (λ (d : Document). kept_text d.kept) c.document.view_is
    ∙ ap text_again (sym (found-document c.args.name.now
    c.self.inside.open.items c.args.self.now c.in_ok-place.place
    c.remove-document.result c.self.view_is c.in_ok-place.ensures c.remove-document.ensures.value))
