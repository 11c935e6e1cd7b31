use Rattle.std.proofs.Common.{[], ◌∙◌, refl, sym}
use Rattle.cb_lsp.specs.Documents.{Work}
use Rattle.cb_lsp.proofs.WorkSteps.{nothing-there}
use Rattle.cb_lsp.proofs.workspace.Workspace.text_before.Goals as goal

pub returns-in-None : goal.returns-in-None
returns-in-None c =
    let work : Work =
    record { world = c.self.inside.desk.timeline.present; documents = c.self.inside.documents } in
    nothing-there work c.args.self.now c.args.name.now [] c.self.view_is
    (sym c.is_lost.ensures ∙ c.if-is_lost.false) c.in-None.ensures refl
