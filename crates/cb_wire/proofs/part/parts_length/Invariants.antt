use Rattle.std.proofs.Common.{◌≡◌, ◌≤◌, ◌*◌, ◌^◌, length, take}
use Rattle.cb_wire.specs.Texts.{parts_text}
use Rattle.cb_wire.proofs.part.parts_length.Given as goal

abbrev pub invariant-loop-part : goal.invariant-loop-part
invariant-loop-part l = record {
  value : l.total ≡ length (parts_text (take l.part-index l.parts));
  few : l.total ≤ 2 ^ 69 * l.part-index;
}
