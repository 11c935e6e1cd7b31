use Rattle.std.proofs.Common.{◌∙◌, sym, ap}
use Rattle.cb_lsp.specs.steps.Noted.{keeps_present}
use Rattle.cb_lsp.proofs.DocumentPlaces.{found-document, unfound}
use Rattle.cb_lsp.proofs.documents.Documents.keeps_present.Goals as goal

pub returns-in-Some : goal.returns-in-Some
returns-in-Some c =
    c.keeps_present.ensures ∙ ap keeps_present (sym (found-document c.args.name.now
    c.self.inside.open.items c.args.self.now c.in-Some.place c.index.result.now c.self.view_is
    c.in-Some.ensures c.index.ensures))

pub returns-in-None : goal.returns-in-None
returns-in-None c =
    ap keeps_present (sym (unfound c.args.name.now c.args.self.now (sym c.in-None.ensures)))
