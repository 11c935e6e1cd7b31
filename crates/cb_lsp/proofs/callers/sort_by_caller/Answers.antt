use Rattle.std.proofs.Common.{rules, ◌∙◌, ℕ, List, [], ◌∷◌, ap}
use Rattle.cb_desk.proofs.TagOrder.{in_order-from_sort_by, map-in_order}
use Rattle.cb_scan.specs.Order.{in_order}
use Rattle.cb_lsp.specs.Calls.{Called, caller_place}
use Rattle.cb_lsp.specs.declared.callers.CallRow.{CallRow}
use Rattle.cb_lsp.specs.steps.Callers.{called_in, called_rows}
use Rattle.cb_lsp.proofs.callers.sort_by_caller.Goals as goal

pub returns : goal.returns
returns c =
    let place : Called → List ℕ = λ d. caller_place d ∷ [] in
    let file : Called → List ℕ = λ d. d.call.file in
    let once = c.sort_by.new.self.items in
    let first = c.in_ok-sort_by.ensures in
    let second = c.in_ok-sort_by-2.ensures in
    ap called_rows (in_order-from_sort_by (λ (r : CallRow). file (called_in r)) once
    c.sort_by-2.new.self.items second.sorted second.stable (λ a r f k. search (rules, k)))
    ∙ map-in_order file called_in once
    ∙ ap (in_order file)
    (ap called_rows (in_order-from_sort_by (λ (r : CallRow). place (called_in r))
    c.args.rows.now.items once first.sorted first.stable (λ a r f k. search (rules, k)))
    ∙ map-in_order place called_in c.args.rows.now.items)
