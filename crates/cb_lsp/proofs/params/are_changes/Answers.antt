use Rattle.std.proofs.Common.{◌∙◌, sym}
use Rattle.cb_lsp.proofs.Items.{are_changes-end, are_changes-more, are_changes-wrong}
use Rattle.cb_lsp.proofs.params.are_changes.Goals as goal

pub returns-then-not-is_change : goal.returns-then-not-is_change
returns-then-not-is_change c =
    sym (are_changes-wrong c.args.values.now c.values.value-index c.value-item.result
    c.values-test.true c.value-item.is (sym c.is_change.ensures ∙ c.if-not-is_change.true))
    ∙ c.values.invariant

pub values-preserved : goal.values-preserved
values-preserved c =
    sym (are_changes-more c.args.values.now c.values.value-index c.value-item.result
    c.values-test.true c.value-item.is (sym c.is_change.ensures ∙ c.if-not-is_change.false))
    ∙ c.values.invariant

pub returns : goal.returns
returns c =
    sym (are_changes-end c.args.values.now c.values.value-index c.values-test.false)
    ∙ c.values.invariant
