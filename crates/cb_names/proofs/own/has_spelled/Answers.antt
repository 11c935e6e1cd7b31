use Rattle.std.proofs.Common.{◌∙◌, sym}
use Rattle.cb_names.specs.Labels.{is_spelled}
use Rattle.cb_names.proofs.LabelLemmas.{any_later}
use Rattle.cb_names.proofs.own.has_spelled.Goals as goal

pub loop-at-preserved : goal.loop-at-preserved
loop-at-preserved c =
    any_later (λ k. is_spelled c.args.text.now c.args.items.now k c.args.name.now) c.loop-at.at _
    c.loop-at-test.true (sym c.is_spelled.ensures ∙ c.if-is_spelled.false)
    ∙ c.loop-at.invariant
