use Rattle.std.proofs.Common.{sym}
use Rattle.cb_lsp.proofs.NoText.{no-file}
use Rattle.cb_lsp.proofs.rename.Renaming.text.Goals as goal

pub returns-in-None : goal.returns-in-None
returns-in-None c = sym (no-file _ _ c.in-None.ensures)
