use Rattle.std.proofs.Common.{◌∙◌, ap}
use Rattle.cb_tags.specs.TagLines.{tag_of}
use Rattle.cb_lsp.specs.steps.Outgoing.{callee_rows}
use Rattle.cb_lsp.proofs.Outgoings.{rows-taken}
use Rattle.cb_lsp.proofs.outgoing.CalledRow.cut.Goals as goal

pub returns-clause-called : goal.returns-clause-called
returns-clause-called c =
    ap (λ calls. (tag_of c.args.self.now.row, calls))
    (ap callee_rows c.front.ensures.front ∙ rows-taken c.args.most c.args.self.now.calls.now)
