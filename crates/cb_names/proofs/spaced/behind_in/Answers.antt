use Rattle.std.proofs.Common.{◌∙◌, ◌++◌, ◌∷◌, [], sym}
use Rattle.std.specs.Prelude.{cond}
use Rattle.cb_names.specs.SpacedNames.{behind_at, is_behind_name}
use Rattle.cb_names.proofs.MacroLemmas.{those_more}
use Rattle.cb_names.proofs.spaced.behind_in.Goals as goal

pub loop-at-preserved : goal.loop-at-preserved
loop-at-preserved c =
    let text = c.args.text.now in
    let xs = c.args.items.now in
    let at = c.loop-at.at in
    let is = is_behind_name text xs c.args.name.now in
    let f = behind_at text xs c.args.parameter in
    c.in_ok-push_behind.ensures
    ∙ (λ i. c.loop-at.invariant i ++ cond (is at) (f at ∷ []) [])
    ∙ sym (those_more f is at)
