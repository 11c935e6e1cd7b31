use Rattle.cb_lsp.proofs.Exact.{renames_are_exact}
use Rattle.cb_lsp.proofs.laws.renames_are_exact.Goals as goal

pub returns : goal.returns
returns c = renames_are_exact
