use Rattle.std.proofs.Common.{drop, map}
use Rattle.cb_wire.specs.Values.{value_text}
use Rattle.cb_lsp.specs.Calls.{caller_calls, cut_by_caller}
use Rattle.cb_lsp.specs.steps.Callers.{called_rows}
use Rattle.cb_lsp.specs.steps.Located.{client_in}
use Rattle.cb_lsp.proofs.callers.IncomingElements.again.Goals as goal

pub returns : goal.returns
returns c =
    let i = c.args.self.now in
    let same = c.new.ensures in
    λ k. map (λ g. value_text (caller_calls (client_in (same.forms k))
    (same.desk k).timeline.present g)) (cut_by_caller (drop i.given (called_rows i.rows.now)))
