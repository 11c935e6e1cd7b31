use Rattle.std.proofs.Common.{◌∙◌, ◌++◌, ◌∷◌, [], sym}
use Rattle.std.specs.Prelude.{cond}
use Rattle.cb_names.specs.FunctionNames.{is_lone}
use Rattle.cb_names.specs.Labels.{span}
use Rattle.cb_names.specs.Pairs.{at}
use Rattle.cb_names.proofs.MacroLemmas.{those_more}
use Rattle.cb_names.proofs.names.lone_of.Goals as goal

pub loop-at-preserved : goal.loop-at-preserved
loop-at-preserved c =
    let xs = c.args.items.now in
    c.in_ok-push_span_if.ensures
    ∙ (λ i. c.loop-at.invariant i ++ cond (c.is_lone.ensures i) (c.span_at.ensures i ∷ []) [])
    ∙ sym (those_more (λ k. span (at xs k)) (is_lone xs) c.loop-at.at)
