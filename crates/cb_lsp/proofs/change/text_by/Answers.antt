use Rattle.std.proofs.Common.{◌≡◌, ◌∙◌, ◌+◌, Err, drop, rules, sym}
use Rattle.std.specs.Option.{option_map}
use Rattle.json.specs.Value.{items_view, value_view}
use Rattle.cb_lsp.specs.Params.{change_of, changes_among}
use Rattle.cb_lsp.proofs.Changes.{changed-last, step-made, step-refused}
use Rattle.cb_lsp.proofs.Items.{changes_among-end, changes_among-more}
use Rattle.cb_lsp.proofs.change.text_by.Goals as goal

pub changes-preserved : goal.changes-preserved
changes-preserved c =
    let vs = c.args.changes.now in
    let split = changes_among-more vs c.changes.value-index c.value-item.result c.changes-test.true
    c.value-item.is in
    step-made c.args.encoding (option_map (λ t. t.now) c.args.before)
    c.changes.new c.in_ok-made.made _
    (change_of (value_view c.value-item.result)) _
    (changes_among (items_view (drop (c.changes.value-index + 1) vs))) split c.in_ok-made.ensures.ok
    c.changes.invariant

pub returns-in_err-made-clause-err : goal.returns-in_err-made-clause-err
returns-in_err-made-clause-err c =
    let vs = c.args.changes.now in
    let split = changes_among-more vs c.changes.value-index c.value-item.result c.changes-test.true
    c.value-item.is in
    let err : c.from_residual.result ≡ Err c.in_err-made.field-0.0 = search rules in
    let refused = step-refused c.args.encoding (option_map (λ t. t.now) c.args.before)
    c.changes.new _ (change_of (value_view c.value-item.result)) _
    (changes_among (items_view (drop (c.changes.value-index + 1) vs))) split
    c.in_err-made.ensures.err c.changes.invariant in
    rw err refused

pub returns-clause-ok : goal.returns-clause-ok
returns-clause-ok c =
    c.text_of.ensures
    ∙ sym (changed-last c.args.encoding (option_map (λ t. t.now) c.args.before) c.changes.new _
    (changes_among-end c.args.changes.now c.changes.value-index c.changes-test.false))
    ∙ c.changes.invariant
