use Rattle.std.proofs.Common.{take}
use Rattle.std.specs.List.{flat_map}
use Rattle.cb_tags.specs.Writing.{PutsAll}
use Rattle.cbrowse.specs.Messages.{told_byte}
use Rattle.cbrowse.proofs.execute.finish.put_name.Given as goal

abbrev pub invariant-loop-byte : goal.invariant-loop-byte
invariant-loop-byte g l =
    PutsAll l.fn.errors l.errors (flat_map told_byte (take l.byte-index l.name))
