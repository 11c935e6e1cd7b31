use Rattle.std.proofs.Common.{◌≡◌, ◌≤◌, ◌*◌, length, take}
use Rattle.json.specs.Print.{escape}
use Rattle.cb_wire.proofs.part.json_length.Given as goal

abbrev pub invariant-loop-byte : goal.invariant-loop-byte
invariant-loop-byte l = record {
  value : l.total ≡ length (escape (take l.byte-index l.text));
  few : l.total ≤ 6 * l.byte-index;
}
