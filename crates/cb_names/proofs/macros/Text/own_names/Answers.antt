use Rattle.std.proofs.Common.{◌∙◌, ◌++◌, ◌∷◌, [], sym}
use Rattle.std.specs.Prelude.{cond}
use Rattle.cb_names.specs.Macros.{is_own_name, macro_name}
use Rattle.cb_names.proofs.MacroLemmas.{those_more}
use Rattle.cb_names.proofs.macros.Text.own_names.Goals as goal

pub loop-at-preserved : goal.loop-at-preserved
loop-at-preserved c =
    let t = c.args.self.now in
    c.in_ok-push_if.ensures
    ∙ (λ i. c.loop-at.invariant i ++ cond (c.is_own_name.ensures i) (c.macro_name.ensures i ∷ []) [])
    ∙ sym (those_more (macro_name t.tokens.now) (is_own_name t.bytes.now t.listed.now t.tokens.now) c.loop-at.at)
