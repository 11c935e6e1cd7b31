use Rattle.std.proofs.Common.{◌<◌, ◌^◌, ℕ, List, [], length, filter, not, ap, arith}
use Rattle.cb_index.specs.Items.{item_count}
use Rattle.cb_index.specs.Repeats.{is_repeat}
use Rattle.cb_index.proofs.NewRowLemmas.{few_items, rows_counted}
use Rattle.cb_index.proofs.items.row_count.Goals as goal

pub loop-next-init : goal.loop-next-init
loop-next-init c =
    let sort = c.args.sort in
    let text = c.args.version.now in
    let new : List ℕ → ℕ = λ items. length (filter (λ i. not (is_repeat sort text i)) items) in
    let few : item_count sort text < 2 ^ 32 =
    omega (arith, c.item_count-count.ensures.value, c.item_count-count.ensures.few) in
    record {
      counted = omega (arith, ap new c.from-items.ensures.left);
      few = omega (
        arith,
        ap length c.from-items.ensures.left,
        few_items [] sort text c.args.item few,
      );
    }

pub returns : goal.returns
returns c =
    let sort = c.args.sort in
    let text = c.args.version.now in
    let new : List ℕ → ℕ = λ items. length (filter (λ i. not (is_repeat sort text i)) items) in
    omega (
      arith,
      c.loop-next.invariant.counted,
      ap new c.in_default.ensures.left,
      rows_counted sort text c.args.item c.requires,
    )
