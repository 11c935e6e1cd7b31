use Rattle.std.proofs.Common.{◌∙◌, sym}
use Rattle.cb_index.proofs.ItemLemmas.{first_begun, first_found, first_passed}
use Rattle.cb_index.proofs.items.is_first.Goals as goal

pub loop-before-init : goal.loop-before-init
loop-before-init c = first_begun c.args.sort c.args.version.now c.args.item

pub loop-before-preserved : goal.loop-before-preserved
loop-before-preserved c =
    first_passed c.args.sort c.args.version.now c.args.item c.loop-before.before
    c.loop-before-test.true (sym c.has_key_of.ensures ∙ c.if-has_key_of.false)
    ∙ c.loop-before.invariant

pub returns-then-has_key_of : goal.returns-then-has_key_of
returns-then-has_key_of c =
    first_found c.args.sort c.args.version.now c.args.item c.loop-before.before
    c.loop-before-test.true (sym c.has_key_of.ensures ∙ c.if-has_key_of.true)
    ∙ c.loop-before.invariant
