use Rattle.std.proofs.Common.{◌∙◌, sym}
use Rattle.cb_index.specs.steps.Left.{fact_of_spot}
use Rattle.cb_lsp.specs.steps.Same.{spots_left}
use Rattle.cb_lsp.proofs.RenameSteps.{last-none, last-some}
use Rattle.cb_lsp.proofs.rename.is_last_of.Goals as goal

pub returns-in-Some : goal.returns-in-Some
returns-in-Some c =
    c.ne.ensures
    ∙ last-some c.args.file.now c.args.most (spots_left c.args.rest.now)
    (spots_left c.next.new.self) (fact_of_spot c.in-Some.spot) c.if-most-eq0.false
    (sym c.again-left.ensures ∙ c.in-Some.ensures.steps)

pub returns-in-None : goal.returns-in-None
returns-in-None c =
    last-none c.args.file.now c.args.most (spots_left c.args.rest.now)
    (sym c.again-left.ensures ∙ c.in-None.ensures.steps.0)
