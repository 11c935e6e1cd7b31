use Rattle.std.proofs.Common.{◌∙◌, ap, take}
use Rattle.cb_lsp.proofs.Outgoings.{take-min}
use Rattle.cb_lsp.proofs.outgoing.front.Goals as goal

pub returns-clause-front : goal.returns-clause-front
returns-clause-front c =
    c.split_at.ensures.front ∙ ap (λ k. take k c.args.calls.now) c.min.ensures
    ∙ take-min c.args.most c.args.calls.now
