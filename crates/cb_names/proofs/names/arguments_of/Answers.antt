use Rattle.std.proofs.Common.{◌∙◌, ◌++◌, ◌∷◌, [], sym}
use Rattle.std.specs.Prelude.{cond}
use Rattle.cb_names.specs.FunctionNames.{arguments_at, has_arguments}
use Rattle.cb_names.proofs.MacroLemmas.{those_more}
use Rattle.cb_names.proofs.names.arguments_of.Goals as goal

pub loop-at-preserved : goal.loop-at-preserved
loop-at-preserved c =
    let xs = c.args.items.now in
    c.in_ok-push_if.ensures
    ∙ (λ i. c.loop-at.invariant i ++ cond (c.has_arguments.ensures i) (c.arguments_at.ensures i ∷ []) [])
    ∙ sym (those_more (arguments_at xs) (has_arguments xs) c.loop-at.at)
