use Rattle.std.proofs.Common.{false}
use Rattle.cb_lsp.proofs.FileSymbols.{same-left}
use Rattle.cb_lsp.proofs.symbols.FileDefs.flat.Goals as goal

pub returns-clause-left : goal.returns-clause-left
returns-clause-left c =
    same-left false c.args.self.now.root c.args.self.now.file c.args.self.now.rest
    c.args.self.now.positions c.range-range.new.self c.range-range.ensures.encoding c.range-range.ensures.text
