use Rattle.std.proofs.Common.{◌∙◌, ◌++◌, ◌∷◌, [], ap, sym}
use Rattle.std.specs.Prelude.{cond}
use Rattle.cb_names.specs.FunctionNames.{is_unsure}
use Rattle.cb_names.specs.Labels.{span}
use Rattle.cb_names.specs.Pairs.{at}
use Rattle.cb_names.proofs.MacroLemmas.{those_more}
use Rattle.cb_names.proofs.names.unsure_of.Goals as goal

pub loop-at-preserved : goal.loop-at-preserved
loop-at-preserved c =
    let xs = c.args.shape.now.items.items in
    let k = c.loop-at.at in
    let found = c.span_at.ensures ∙ ap (λ ys. span (at ys k)) c.as_slice-items.ensures.value in
    c.in_ok-push_span_if.ensures
    ∙ (λ i. c.loop-at.invariant i ++ cond (c.is_unsure.ensures i) (found i ∷ []) [])
    ∙ sym (those_more (λ k. span (at xs k)) (is_unsure xs c.args.shape.now.body) k)
