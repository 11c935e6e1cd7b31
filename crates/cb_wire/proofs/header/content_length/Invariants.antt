use Rattle.std.proofs.Common.{◌≡◌}
use Rattle.cb_wire.specs.Fields.{content_length, of_lines}
use Rattle.cb_wire.proofs.header.content_length.Given as goal

abbrev pub invariant-lines : goal.invariant-lines
invariant-lines l = of_lines l.line-iterator l.found ≡ content_length l.fn.head
