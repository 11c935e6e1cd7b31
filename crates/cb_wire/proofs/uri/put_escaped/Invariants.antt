use Rattle.std.proofs.Common.{take}
use Rattle.cb_tags.specs.Writing.{PutsAll}
use Rattle.cb_wire.specs.Uris.{escaped}
use Rattle.cb_wire.proofs.uri.put_escaped.Given as goal

abbrev pub invariant-loop-byte : goal.invariant-loop-byte
invariant-loop-byte g l = PutsAll l.fn.out l.out (escaped (take l.byte-index l.path))
