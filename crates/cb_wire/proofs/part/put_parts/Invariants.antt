use Rattle.std.proofs.Common.{take}
use Rattle.cb_tags.specs.Writing.{PutsAll}
use Rattle.cb_wire.specs.Texts.{parts_text}
use Rattle.cb_wire.proofs.part.put_parts.Given as goal

abbrev pub invariant-loop-part : goal.invariant-loop-part
invariant-loop-part g l = PutsAll l.fn.out l.out (parts_text (take l.part-index l.parts))
