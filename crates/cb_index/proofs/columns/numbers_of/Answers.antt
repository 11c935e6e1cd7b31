use Rattle.std.proofs.Common.{arith}
use Rattle.std.proofs.lemmas.Grind.{common_steps}
use Rattle.std.proofs.lemmas.List.FromFn.{map-range_with_len_more}
use Rattle.cb_index.specs.steps.Numbering.{number_of}
use Rattle.cb_index.proofs.NumberLemmas.{knows_none}
use Rattle.cb_index.proofs.columns.numbers_of.Goals as goal

pub loop-item-init : goal.loop-item-init
loop-item-init c = record {
  numbers = c.in_ok-numbers.ensures.items;
  room = grind (arith, common_steps);
  known = knows_none c.args.sort c.args.text.now c.new-known.result c.new-known.ensures.empty;
}

pub loop-item-preserved : goal.loop-item-preserved
loop-item-preserved c =
    let more = map-range_with_len_more (number_of c.args.sort c.args.text.now) 0
    c.loop-item.item c.loop-item.item (omega arith) in
    record {
      numbers = grind (arith, common_steps, more);
      room = grind (arith, common_steps);
      known = c.in_ok-number.ensures.known;
    }
