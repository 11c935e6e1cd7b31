use Rattle.std.proofs.Common.{◌∙◌, sym}
use Rattle.cb_lsp.specs.steps.References.{reached_left}
use Rattle.cb_lsp.proofs.Undeclared.{wanted-end}
use Rattle.cb_lsp.proofs.references.ReferencesIterator.next.Goals as goal

pub returns-clause-steps : goal.returns-clause-steps
returns-clause-steps c =
    let r = c.uses.self in (
      sym c.uses.invariant
          ∙ wanted-end r.declarations r.definitions (reached_left r.uses)
          c.in_default.ensures.steps.0,
      wanted-end r.declarations r.definitions (reached_left c.next.new.self)
          c.in_default.ensures.steps.1,
    )
