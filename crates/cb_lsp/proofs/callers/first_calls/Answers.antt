use Rattle.std.proofs.Common.{sym, subst}
use Rattle.cb_lsp.specs.steps.Callers.{FirstCalls, called_in, called_rows}
use Rattle.cb_lsp.proofs.CallGroups.{first-calls}
use Rattle.cb_lsp.proofs.callers.first_calls.Goals as goal

pub returns : goal.returns
returns c =
    let first = c.in_ok-first.first.now in
    subst (λ rs. FirstCalls (called_rows c.args.rows.now) (called_in first) (called_rows rs))
    (sym c.split_at.ensures.front)
    (first-calls c.args.rows.now first c.in_ok-first.behind.now c.calls_beside-count.result
    c.in_ok-first.ensures.cases.0 c.calls_beside-count.ensures.value
    c.calls_beside-count.ensures.within)
