use Rattle.std.proofs.Common.{◌≡◌, ◌∙◌, ◌<◌, true, false, ap, sym, length, arith}
use Rattle.cb_index.specs.Items.{is_first, item_count}
use Rattle.cb_index.proofs.ItemLemmas.{firsts_found, firsts_passed}
use Rattle.cb_index.proofs.order.first_count.Goals as goal
use Rattle.cb_index.proofs.order.first_count.Goals.{then-is_first, else-is_first}

pub loop-item-preserved : goal.loop-item-preserved
loop-item-preserved c =
    let sort = c.args.kind in
    let text = c.args.version.now in
    let k = c.loop-item.item in
    let below : k < item_count sort text = omega arith in
    elim c.if-is_first.branch [
      | then-is_first w ↦
          let first : is_first sort text k ≡ true = sym c.is_first.ensures ∙ w.if-is_first.true in
          let more = ap length (firsts_found sort text k below first) in
          record { counted = omega (arith, more); few = omega arith }
      | else-is_first w ↦
          let later : is_first sort text k ≡ false = sym c.is_first.ensures ∙ w.if-is_first.false in
          let same = ap length (firsts_passed sort text k below later) in
          record { counted = omega (arith, same); few = omega arith }
    ]
