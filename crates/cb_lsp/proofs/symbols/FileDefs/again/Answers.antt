use Rattle.std.proofs.Common.{◌∙◌}
use Rattle.cb_lsp.proofs.FileSymbols.{same-left}
use Rattle.cb_lsp.proofs.symbols.FileDefs.again.Goals as goal

pub returns : goal.returns
returns c = λ tree.
    same-left tree c.args.self.now.root c.args.self.now.file c.args.self.now.rest
    c.args.self.now.positions c.new.result (c.new.ensures.encoding ∙ c.encoding.ensures)
    (c.new.ensures.text ∙ c.source.ensures)
