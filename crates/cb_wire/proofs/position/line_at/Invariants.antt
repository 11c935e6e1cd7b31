use Rattle.cb_wire.proofs.Lines.{WalksTo}
use Rattle.cb_wire.proofs.position.line_at.Given as goal

abbrev pub invariant-lines : goal.invariant-lines
invariant-lines l = WalksTo l.fn.text l.line l.start l.left l.found-iterator
