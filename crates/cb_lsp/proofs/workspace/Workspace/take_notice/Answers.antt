use Rattle.std.proofs.Common.{sym, ap, ◌∙◌, [], ◌∷◌}
use Rattle.cb_lsp.specs.Messages.{told_of}
use Rattle.cb_lsp.specs.Models.{found_in}
use Rattle.cb_lsp.specs.steps.Values.{seen}
use Rattle.cb_lsp.specs.steps.Works.{one_change}
use Rattle.cb_lsp.proofs.workspace.Workspace.take_notice.Goals as goal

pub returns-in-Close : goal.returns-in-Close
returns-in-Close c =
    let o = one_change c.close.ensures.0 (found_in c.args.found) in (
      c.close.ensures.0 ∷ [],
      c.close.ensures.1 ∙ ap (λ n. told_of c.args.encoding n o c.args.self.now (seen c.args.params)
          c.args.name.now) (sym c.in-Close.is),
    )
