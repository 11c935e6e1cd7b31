use Rattle.std.proofs.Common.{◌∙◌, sym}
use Rattle.cb_lsp.proofs.UsesReached.{reached-end}
use Rattle.cb_lsp.proofs.reach.ReachedIterator.next.Goals as goal

pub returns-clause-steps : goal.returns-clause-steps
returns-clause-steps c =
    let r = c.uses.self in (
      sym c.uses.invariant
          ∙ reached-end r.own r.from.now r.last.now r.hidden r.definitions r.rest
          c.in_default.ensures.steps.0,
      reached-end r.own r.from.now r.last.now r.hidden r.definitions c.next.new.self
          c.in_default.ensures.steps.1,
    )
