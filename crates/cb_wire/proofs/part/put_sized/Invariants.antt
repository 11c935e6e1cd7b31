use Rattle.std.proofs.Common.{take}
use Rattle.cb_tags.specs.Writing.{PutsAll}
use Rattle.json.specs.Print.{escape}
use Rattle.cb_wire.proofs.part.put_sized.Given as goal

abbrev pub invariant-loop-byte : goal.invariant-loop-byte
invariant-loop-byte g l = PutsAll l.fn.out l.out (escape (take l.byte-index l.text))
