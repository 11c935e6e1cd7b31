use Rattle.std.proofs.Common.{◌∙◌, sym, ap}
use Rattle.cb_lsp.specs.Documents.{was_lost}
use Rattle.cb_lsp.proofs.DocumentPlaces.{found-document, unfound}
use Rattle.cb_lsp.proofs.documents.Documents.is_lost.Goals as goal

pub returns-in-Some : goal.returns-in-Some
returns-in-Some c =
    c.is_lost.ensures ∙ ap was_lost (sym (found-document c.args.name.now
    c.self.inside.open.items c.args.self.now c.in-Some.place c.index.result.now c.self.view_is
    c.in-Some.ensures c.index.ensures))

pub returns-in-None : goal.returns-in-None
returns-in-None c =
    ap was_lost (sym (unfound c.args.name.now c.args.self.now (sym c.in-None.ensures)))
