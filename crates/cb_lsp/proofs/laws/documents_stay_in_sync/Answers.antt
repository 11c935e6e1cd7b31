use Rattle.cb_lsp.proofs.HeldUnits.{editors_stay_in_sync}
use Rattle.cb_lsp.proofs.Synced.{documents_stay_in_sync}
use Rattle.cb_lsp.proofs.laws.documents_stay_in_sync.Goals as goal

pub returns-clause-bytes : goal.returns-clause-bytes
returns-clause-bytes c = documents_stay_in_sync

pub returns-clause-units : goal.returns-clause-units
returns-clause-units c = editors_stay_in_sync
