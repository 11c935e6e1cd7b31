use Rattle.std.proofs.Common.{◌≡◌, ◌≤◌, ◌-◌, ◌^◌, length, map, Result}
use Rattle.std.specs.Vec.Iter.{into_iter_items, into_iter_len}
use Rattle.cb_session.specs.Operands.{RefusedOperand, Loads, file_of_operand}
use Rattle.cb_desk.specs.Desk.{bytes_in, counted}
use Rattle.cb_desk.specs.Timeline.{Timeline, new_timeline}
use Rattle.cb_session.proofs.state.prepare.Given as goal

abbrev pub invariant-loop-operand : goal.invariant-loop-operand
invariant-loop-operand l = record {
  goes : (end : Result Timeline RefusedOperand) → Loads l.place l.desk.timeline
      (map file_of_operand (into_iter_items l.operand-iterator)) end
      → Loads 0 (new_timeline l.fn.profile l.fn.bounds) (map file_of_operand l.fn.operands.items)
      end;
  placed : l.place ≡ length l.desk.timeline.past;
  scanned : counted l.desk.meter
      (bytes_in (map file_of_operand (into_iter_items l.operand-iterator)))
      ≡ counted 0 (bytes_in (map file_of_operand l.fn.operands.items));
  fits : l.desk.meter ≤ 2 ^ 64 - 1;
  shown : l.desk.turns ≡ counted 0 l.place;
  counted : into_iter_len l.operand-iterator ≡ length (into_iter_items l.operand-iterator);
}
