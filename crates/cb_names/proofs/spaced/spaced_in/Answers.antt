use Rattle.std.proofs.Common.{◌∙◌, ◌++◌, ◌∷◌, [], sym}
use Rattle.std.specs.Prelude.{cond}
use Rattle.cb_names.specs.SpacedNames.{is_name_spelled, spaced_at}
use Rattle.cb_names.proofs.MacroLemmas.{those_more}
use Rattle.cb_names.proofs.spaced.spaced_in.Goals as goal

pub loop-at-preserved : goal.loop-at-preserved
loop-at-preserved c =
    let xs = c.args.items.now in
    c.in_ok-push_if.ensures
    ∙ (λ i. c.loop-at.invariant i ++ cond (c.is_name_spelled.ensures i) (c.spaced_at.ensures i ∷ []) [])
    ∙ sym (those_more (spaced_at xs) (is_name_spelled c.args.text.now xs c.args.name.now) c.loop-at.at)
