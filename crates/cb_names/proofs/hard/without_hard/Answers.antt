use Rattle.std.proofs.Common.{◌∙◌, ◌++◌, ◌∷◌, [], ap, arith, sym}
use Rattle.std.specs.Prelude.{cond}
use Rattle.cb_names.specs.steps.Hiding.{farther, reaches}
use Rattle.cb_names.proofs.HardLemmas.{kept_more, last_more}
use Rattle.cb_names.proofs.hard.without_hard.Goals as goal

pub loop-at-preserved : goal.loop-at-preserved
loop-at-preserved c =
    let xs = c.args.items.now in
    let n = c.loop-at.at in
    let so_far = c.loop-at.invariant in
    let last_is = c.farther-last.ensures ∙ ap (λ e. farther e c.loop-at.last) c.hard_end.ensures in
    let all = last_more xs n c.loop-at.last so_far.last in
    record {
      kept = kept_more xs n _ _ _ so_far.kept
          (c.reaches.ensures ∙ ap (λ l. reaches l n) last_is ∙ sym (all n))
          (c.in_ok-push_unless.ensures.value
          ∙ ap (λ x. c.loop-at.kept.items ++ cond c.reaches.result [] (x ∷ [])) c.item_at.ensures);
      few = omega (arith, c.in_ok-push_unless.ensures.few, so_far.few);
      last = λ i. all i ∙ ap (λ l. reaches l i) (sym last_is);
    }
