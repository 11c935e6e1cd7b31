use Rattle.std.proofs.Common.{◌∙◌, ◌+◌, ◌≤◌, sym, subst, length, vec_capacity}
use Rattle.std.proofs.Math.Nat.{le_trans}
use Rattle.cb_index.specs.Blocks.{joined}
use Rattle.cb_index.proofs.BlockLemmas.{lift_fits}
use Rattle.cb_index.proofs.blocks.Blocks.lift.Goals as goal

-- the room is for all of them
pub extend-requires : goal.extend-requires
extend-requires t c =
    let es = c.loop-block.items.items in
    subst (λ b. length es + length b ≤ vec_capacity c.loop-block.items)
    (sym (c.items.ensures.value ∙ c.block-item.is))
    (lift_fits c.used-used.result.now c.loop-block.block-index c.block-item.result es
    c.args.items.now.items _
    c.loop-block-test.true c.loop-block.invariant.items
    (le_trans (subst
    (λ bs. length c.args.items.now.items + length (joined bs) ≤ vec_capacity c.args.items.now)
    (sym c.used-used.ensures.value) c.requires) c.loop-block.invariant.grown))
