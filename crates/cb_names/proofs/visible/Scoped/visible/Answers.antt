use Rattle.std.proofs.Common.{◌∙◌, ◌++◌, ◌∷◌, [], sym, ap, arith}
use Rattle.std.specs.Prelude.{cond}
use Rattle.cb_names.specs.Labels.{span}
use Rattle.cb_names.specs.Pairs.{at}
use Rattle.cb_names.specs.Visible.{is_visible}
use Rattle.cb_names.proofs.MacroLemmas.{those_more}
use Rattle.cb_names.proofs.VisibleLemmas.{visible_same}
use Rattle.cb_names.proofs.visible.Scoped.visible.Goals as goal

pub loop-index-preserved : goal.loop-index-preserved
loop-index-preserved c =
    let s = c.args.self.now in
    let xs = s.shape.now.items.items in
    let d = c.loop-index.index in
    let span_is = c.span_at.ensures ∙ ap (λ l. span (at l d)) c.as_slice.ensures.value in
    let is = c.is_visible.ensures
    ∙ visible_same s c.requires.scoped c.args.later d (omega (arith, c.requires.within, c.loop-index-test.true)) in
    c.in_ok-push_span_if.ensures
    ∙ (λ i. c.loop-index.invariant i ++ cond (is i) (span_is i ∷ []) [])
    ∙ sym (those_more (λ k. span (at xs k)) (is_visible xs s.name s.shape.now.body c.args.later) d)
