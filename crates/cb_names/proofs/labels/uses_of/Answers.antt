use Rattle.std.proofs.Common.{◌∙◌, ◌++◌, ◌∷◌, [], sym}
use Rattle.std.specs.Prelude.{cond}
use Rattle.cb_names.specs.steps.Labelling.{use_by, uses}
use Rattle.cb_names.proofs.LabelLemmas.{uses_more}
use Rattle.cb_names.proofs.labels.uses_of.Goals as goal

pub loop-j-preserved : goal.loop-j-preserved
loop-j-preserved c =
    let test = uses c.args.text.now c.args.items.now c.args.starts.now c.args.k in
    c.in_ok-push_if.ensures
    ∙ (λ i. c.loop-j.invariant i ++ cond (c.uses-is_wanted.ensures i) (c.use_by.ensures i ∷ []) [])
    ∙ sym (uses_more (use_by c.args.items.now c.args.starts.now) test c.loop-j.j)
