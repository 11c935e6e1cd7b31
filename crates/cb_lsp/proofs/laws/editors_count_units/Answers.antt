use Rattle.cb_lsp.proofs.Editors.{editors_count_units}
use Rattle.cb_lsp.proofs.laws.editors_count_units.Goals as goal

pub returns : goal.returns
returns c = editors_count_units
