use Rattle.std.proofs.Common.{◌++◌, map}
use Rattle.cb_index.specs.steps.Left.{tag_of_spot}
use Rattle.cb_wire.specs.Values.{value_text}
use Rattle.cb_lsp.specs.Symbols.{session_symbol}
use Rattle.cb_lsp.proofs.symbols.SessionSymbolsElements.again.Goals as goal

pub returns : goal.returns
returns c = λ i. map
    (λ t. value_text
    (session_symbol (c.again.ensures i).client (c.again.ensures i).files t))
    (c.again-2.ensures i ++ map tag_of_spot c.args.self.now.kept.now)
