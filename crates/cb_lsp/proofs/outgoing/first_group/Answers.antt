use Rattle.std.proofs.Common.{sym, subst}
use Rattle.cb_lsp.specs.steps.Outgoing.{FirstGroup, callee_in, callee_rows}
use Rattle.cb_lsp.proofs.Outgoings.{first-group}
use Rattle.cb_lsp.proofs.outgoing.first_group.Goals as goal

pub returns : goal.returns
returns c =
    let first = c.in_ok-first.first.now in
    subst (λ rs. FirstGroup (callee_rows c.args.rows.now) (callee_in first, callee_rows rs))
    (sym c.split_at.ensures.front)
    (first-group c.args.rows.now first c.in_ok-first.behind.now c.callees_beside-count.result
    c.in_ok-first.ensures.cases.0 c.callees_beside-count.ensures.value
    c.callees_beside-count.ensures.within)
