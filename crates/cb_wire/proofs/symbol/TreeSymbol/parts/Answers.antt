use Rattle.std.proofs.Common.{sym}
use Rattle.cb_wire.proofs.Symbols.{tree-symbol-text}
use Rattle.cb_wire.proofs.symbol.TreeSymbol.parts.Goals as goal

pub returns : goal.returns
returns c =
    let s = c.args.self.now in
    sym (tree-symbol-text s.name.now s.kind s.line s.range)
