use Rattle.std.proofs.Common.{◌≡◌, ◌≤◌, ◌+◌, ◌*◌, length}
use Rattle.json.specs.Print.{escape}
use Rattle.cb_wire.specs.Texts.{readable}
use Rattle.cb_wire.proofs.part.source_length.Given as goal

abbrev pub invariant-sequences : goal.invariant-sequences
invariant-sequences l = record {
  value : l.total + length (escape (readable l.rest)) ≡ length (escape (readable l.bytes));
  few : l.total + 18 * length l.rest ≤ 18 * length l.bytes;
}

abbrev pub decreases-sequences : goal.decreases-sequences
decreases-sequences l = length l.rest
