use Rattle.std.proofs.Common.{rules, ◌∙◌, ℕ, List, ap}
use Rattle.cb_desk.proofs.TagOrder.{in_order-from_sort_by, map-in_order}
use Rattle.cb_lsp.specs.Outgoing.{Callee}
use Rattle.cb_lsp.specs.declared.outgoing.CalleeRow.{CalleeRow}
use Rattle.cb_lsp.specs.steps.Outgoing.{callee_in, callee_rows}
use Rattle.cb_lsp.proofs.outgoing.sort_by_name.Goals as goal

pub returns : goal.returns
returns c =
    let name : Callee → List ℕ = λ d. d.name in
    let sorted = c.in_ok-sort_by.ensures in
    ap callee_rows (in_order-from_sort_by (λ (r : CalleeRow). name (callee_in r))
    c.args.rows.now.items c.sort_by.new.self.items sorted.sorted sorted.stable
    (λ a r f k. search (rules, k)))
    ∙ map-in_order name callee_in c.args.rows.now.items
