-- What is taken moves, and nothing else does.
use Rattle.std.proofs.Common.{◌∙◌, ◌∷◌, ◌+◌, ap, arith, drop, rules, sym}
use Rattle.std.proofs.lemmas.List.{drop_more, take_rest}
use Rattle.cb_scan.proofs.Merging.{at_end, one_turn}
use Rattle.cb_scan.proofs.rules.order.merged.Goals as goal

pub loop-item-preserved : goal.loop-item-preserved
loop-item-preserved g c = record {
  moved = one_turn _ c.loop-item.all.items c.args.first.now c.loop-item.rest.now _ _ _ c.loop-item.item-index
      c.count_before-before.result _ c.loop-item.invariant.moved
      c.in_ok-extend_from_slice.ensures.items c.in_ok-push.ensures.items
      (take_rest c.loop-item.rest.now c.count_before-before.result)
      (drop_more c.args.first.now c.loop-item.item-index _ (omega (arith, c.loop-item-test.true))
      ∙ ap (λ x. x ∷ drop (c.loop-item.item-index + 1) c.args.first.now) (sym c.item-item.is));
  few = search rules;
}

pub returns : goal.returns
returns g c =
    at_end _ c.loop-item.all.items c.args.first.now c.loop-item.rest.now _ c.loop-item.item-index
    c.loop-item.invariant.moved (omega (arith, c.loop-item-test.false))
    c.in_ok-extend_from_slice-2.ensures.items
