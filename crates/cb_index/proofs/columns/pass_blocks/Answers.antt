use Rattle.std.proofs.Common.{◌∙◌, sym, arith}
use Rattle.cb_index.proofs.ColumnLemmas.{block_far}
use Rattle.cb_index.proofs.columns.pass_blocks.Goals as goal

pub loop-from-preserved : goal.loop-from-preserved
loop-from-preserved c = record {
  from = omega (arith, c.loop-from.invariant.from);
  far =
      block_far c.args.cells.now c.args.from c.loop-from.at _ c.args.hash c.loop-from.invariant.far
      (omega (arith, c.loop-from-test.true, c.saturating_add.ensures))
      (sym c.any_near.ensures ∙ c.if-any_near.false);
}
