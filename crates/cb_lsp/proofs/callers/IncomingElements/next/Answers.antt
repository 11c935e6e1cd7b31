use Rattle.std.proofs.Common.{◌≡◌, ◌∙◌, ◌+◌, ◌∷◌, List, [], ap, arith, drop, length, map, sym}
use Rattle.std.proofs.lemmas.List.{drop-drop}
use Rattle.cb_wire.specs.Calls.{call_item_tree, calls_of, side_name}
use Rattle.cb_wire.specs.declared.calls.Side.TheVariants.{From}
use Rattle.cb_wire.specs.Values.{value_text}
use Rattle.cb_lsp.specs.Calls.{Called, caller_calls, cut_by, cut_by_caller}
use Rattle.cb_lsp.specs.declared.callers.CallRow.{CallRow}
use Rattle.cb_lsp.specs.steps.Callers.{called_in, called_rows, incoming_left}
use Rattle.cb_lsp.specs.steps.Located.{client_in}
use Rattle.cb_lsp.proofs.CallGroups.{drop-map, mapped, passed}
use Rattle.cb_lsp.proofs.Listed.{map-map}
use Rattle.cb_lsp.proofs.callers.IncomingElements.next.Goals as goal

pub returns-then-self : goal.returns-then-self
unfolding cut_by
returns-then-self c =
    let i = c.args.self.now in
    let w = i.callers.desk.now.timeline.present in
    ap (λ cs. map (λ g. value_text (caller_calls (client_in i.callers.forms) w g))
    (cut_by_caller cs))
    (passed called_in i.given i.rows.now (omega (arith, c.if-self.true)))

pub returns-in_err-first : goal.returns-in_err-first
unfolding cut_by
returns-in_err-first c =
    let i = c.args.self.now in
    let w = i.callers.desk.now.timeline.present in
    let none : incoming_left i ≡ [] =
    ap (λ cs. map (λ g. value_text (caller_calls (client_in i.callers.forms) w g))
    (cut_by_caller cs))
    (sym (drop-map called_in i.given i.rows.now) ∙ ap called_rows (sym c.split_at.ensures.back)
    ∙ ap called_rows c.in_err-first.ensures) in
    rw c.from_residual.ensures none

pub returns : goal.returns
returns c =
    let i = c.args.self.now in
    let w = i.callers.desk.now.timeline.present in
    let groups = λ (cs : List Called).
    map (λ g. value_text (caller_calls (client_in i.callers.forms) w g)) (cut_by_caller cs) in
    let found = c.in_ok-first.ensures in
    let same = c.caller-item.ensures in
    let calls = c.in_ok-first.calls.now in
    let all = called_rows i.rows.now in
    let text = value_text (calls_of (side_name From) (call_item_tree c.caller-item.result)
    (map (λ (r : CallRow). r.range) calls)) in
    let left : drop i.given all ≡ called_rows c.split_at.result.1.now =
    sym (drop-map called_in i.given i.rows.now) ∙ ap called_rows (sym c.split_at.ensures.back) in
    ap groups left
    ∙ ap (map (λ g. value_text (caller_calls (client_in i.callers.forms) w g))) found.cut
    ∙ (λ k. value_text (calls_of (side_name From) (sym c.caller-item.ensures.caller k)
    (sym (map-map (λ (d : Called). d.range) called_in calls) k))
    ∷ groups (drop (mapped called_in calls k) (sym left k)))
    ∙ ap (λ cs. text ∷ groups cs) (drop-drop (length calls) i.given all)
    ∙ (λ k. text ∷ map (λ g. value_text (caller_calls (client_in (sym same.forms k))
    (sym same.desk k).timeline.present g))
    (cut_by_caller (drop (sym same.given k + length calls) (called_rows (sym same.rows k).now))))
