use Rattle.std.proofs.Common.{◌∙◌, sym}
use Rattle.std.specs.Prelude.{◌||◌}
use Rattle.cb_names.specs.Macros.{is_called}
use Rattle.cb_names.proofs.MacroLemmas.{any_more}
use Rattle.cb_names.proofs.macros.Text.are_called.Goals as goal

pub loop-at-preserved : goal.loop-at-preserved
loop-at-preserved c =
    let t = c.args.self.now in
    c.either-called.ensures
    ∙ (λ i. c.loop-at.invariant i || c.is_called.ensures i)
    ∙ sym (any_more (is_called t.bytes.now t.listed.now t.tokens.now) c.loop-at.at)
