use Rattle.std.proofs.Common.{sym}
use Rattle.cb_wire.proofs.Symbols.{flat-symbol-text}
use Rattle.cb_wire.proofs.symbol.Symbol.parts.Goals as goal

pub returns : goal.returns
returns c =
    let s = c.args.self.now in
    sym (flat-symbol-text s.name.now s.kind s.location.root.now s.location.name.now
    s.location.range)
