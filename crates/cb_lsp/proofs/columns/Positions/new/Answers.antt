use Rattle.cb_lsp.proofs.Marks.{no-line}
use Rattle.cb_lsp.proofs.columns.Positions.new.Goals as goal

pub invariant_of-result : goal.invariant_of-result
invariant_of-result c = no-line c.args.encoding c.args.source.now c.new.result c.new.ensures
