use Rattle.std.proofs.Common.{◌≡◌, ◌++◌, take}
use Rattle.cb_wire.specs.Uris.{escaped}
use Rattle.cb_wire.proofs.uri.append_escaped.Given as goal

abbrev pub invariant-loop-byte : goal.invariant-loop-byte
invariant-loop-byte l = l.text.items ≡ l.fn.text.items ++ escaped (take l.byte-index l.path)
