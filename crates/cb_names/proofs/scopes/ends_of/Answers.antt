use Rattle.std.proofs.Common.{◌∙◌, ◌<◌, None, ap, arith, length}
use Rattle.cb_names.specs.Scopes.{end_around}
use Rattle.cb_names.specs.steps.Pairing.{answer}
use Rattle.cb_names.specs.steps.Scoping.{end_by}
use Rattle.cb_names.proofs.ScopeLemmas.{end_is}
use Rattle.cb_names.proofs.TableLemmas.{push}
use Rattle.cb_names.proofs.scopes.ends_of.Goals as goal

pub loop-at-preserved : goal.loop-at-preserved
loop-at-preserved c =
    let s = c.args.shape.now in
    let xs = s.items.items in
    let k = c.loop-at.at in
    let is = c.requires in
    let within : k < length xs = omega (arith, c.loop-at-test.true) in
    let around = c.answer-around.ensures ∙ ap (λ t. answer t k) c.as_slice.ensures.value ∙ is.around.at k None within in
    push (end_around xs) k _ _ _ c.loop-at.invariant c.in_ok-push.ensures.items
    (c.end_by.ensures
    ∙ (λ i. end_by (c.as_slice-in-loop-at.ensures.value i) (c.as_slice-in-loop-at-2.ensures.value i) (around i))
    ∙ end_is xs s.pairs.partner.items c.loop-at.ends.items k within is.partner c.loop-at.invariant)
