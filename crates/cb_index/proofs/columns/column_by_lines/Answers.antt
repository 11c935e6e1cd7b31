use Rattle.std.proofs.Common.{arith}
use Rattle.std.proofs.lemmas.Grind.{common_steps}
use Rattle.std.proofs.lemmas.List.FromFn.{map-range_with_len_more}
use Rattle.cb_index.specs.Columns.{cell_of}
use Rattle.cb_index.proofs.columns.column_by_lines.Goals as goal

pub loop-item-preserved : goal.loop-item-preserved
loop-item-preserved c =
    let more = map-range_with_len_more (cell_of c.args.sort c.args.text.now) 0
    c.loop-item.item c.loop-item.item (omega arith) in
    record {
      cells = grind (arith, common_steps, more);
      room = grind (arith, common_steps);
    }
