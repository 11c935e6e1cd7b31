use Rattle.cb_lsp.proofs.LineMarks.{first-mark}
use Rattle.cb_lsp.proofs.edited.Edited.new.Goals as goal

pub invariant_of-result : goal.invariant_of-result
invariant_of-result c = first-mark c.args.text.items
