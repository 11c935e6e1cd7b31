use Rattle.std.proofs.Common.{rules, ◌∙◌, ℕ, List, [], ◌∷◌, ap}
use Rattle.cb_desk.proofs.TagOrder.{in_order-from_sort_by, map-in_order}
use Rattle.cb_lsp.specs.Outgoing.{Group}
use Rattle.cb_lsp.specs.declared.outgoing.CalleeGroup.{CalleeGroup}
use Rattle.cb_lsp.specs.steps.Outgoing.{group_in, group_rows}
use Rattle.cb_lsp.proofs.outgoing.sort_by_first_call.Goals as goal

pub returns : goal.returns
returns c =
    let place : Group → List ℕ = λ g. g.0.place ∷ [] in
    let sorted = c.in_ok-sort_by.ensures in
    ap group_rows (in_order-from_sort_by (λ (g : CalleeGroup). place (group_in g))
    c.args.groups.now.items c.sort_by.new.self.items sorted.sorted sorted.stable
    (λ a r f k. search (rules, k)))
    ∙ map-in_order place group_in c.args.groups.now.items
