use Rattle.std.proofs.Common.{◌∙◌, sym}
use Rattle.std.specs.Prelude.{◌||◌}
use Rattle.cb_names.specs.Macros.{is_odd}
use Rattle.cb_names.proofs.MacroLemmas.{any_more}
use Rattle.cb_names.proofs.macros.Text.are_odd.Goals as goal

pub loop-at-preserved : goal.loop-at-preserved
loop-at-preserved c =
    let t = c.args.self.now in
    c.either-odd.ensures
    ∙ (λ i. c.loop-at.invariant i || c.is_odd.ensures i)
    ∙ sym (any_more (is_odd t.bytes.now t.listed.now t.tokens.now) c.loop-at.at)
