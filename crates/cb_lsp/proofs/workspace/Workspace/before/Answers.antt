use Rattle.std.proofs.Common.{◌∙◌, sym}
use Rattle.cb_lsp.specs.Documents.{Work}
use Rattle.cb_lsp.proofs.WorkSteps.{nothing-before}
use Rattle.cb_lsp.proofs.workspace.Workspace.before.Goals as goal

pub returns-in-None : goal.returns-in-None
returns-in-None c =
    let work : Work =
    record { world = c.self.inside.desk.timeline.present; documents = c.self.inside.documents } in
    nothing-before work c.args.self.now c.args.name.now c.new.result.items c.self.view_is
    (sym c.keeps_present.ensures ∙ c.if-not-keeps_present.false) c.in-None.ensures
    c.new.ensures.items
