use Rattle.std.proofs.Common.{◌∙◌, sym}
use Rattle.cb_lsp.proofs.Items.{has_text-end, has_text-found, has_text-more}
use Rattle.cb_lsp.proofs.params.has_text.Goals as goal

pub returns-then-is_text : goal.returns-then-is_text
returns-then-is_text c =
    sym (has_text-found c.args.text.now c.args.values.now c.values.value-index c.value-item.result
    c.values-test.true c.value-item.is (sym c.is_text.ensures ∙ c.if-is_text.true))
    ∙ c.values.invariant

pub values-preserved : goal.values-preserved
values-preserved c =
    sym (has_text-more c.args.text.now c.args.values.now c.values.value-index c.value-item.result
    c.values-test.true c.value-item.is (sym c.is_text.ensures ∙ c.if-is_text.false))
    ∙ c.values.invariant

pub returns : goal.returns
returns c =
    sym (has_text-end c.args.text.now c.args.values.now c.values.value-index c.values-test.false)
    ∙ c.values.invariant
