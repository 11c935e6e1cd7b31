use Rattle.cb_lsp.proofs.LostTold.{lost_are_told}
use Rattle.cb_lsp.proofs.laws.lost_documents_are_told.Goals as goal

pub returns : goal.returns
returns c = lost_are_told
