use Rattle.std.proofs.Common.{◌∙◌, ◌++◌, ◌∷◌, [], ap, sym}
use Rattle.std.specs.Prelude.{cond}
use Rattle.cb_names.specs.Parameters.{names_same, parameter_use}
use Rattle.cb_names.proofs.LabelLemmas.{uses_more}
use Rattle.cb_names.proofs.parameter.uses_of.Goals as goal

pub loop-j-preserved : goal.loop-j-preserved
loop-j-preserved c =
    let text = c.args.text.now in
    let xs = c.args.shape.now.items.items in
    let k = c.args.k in
    let j = c.loop-j.j in
    let is = c.names_same.ensures ∙ ap (λ l. names_same text l k j) c.as_slice.ensures.value in
    c.in_ok-push_if.ensures
    ∙ (λ i. c.loop-j.invariant i ++ cond (is i) (c.parameter_use.ensures i ∷ []) [])
    ∙ sym (uses_more (parameter_use text xs k) (names_same text xs k) j)
