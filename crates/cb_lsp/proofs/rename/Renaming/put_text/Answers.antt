use Rattle.std.proofs.Common.{true}
use Rattle.cb_lsp.proofs.Notices.{quiet}
use Rattle.cb_lsp.proofs.rename.Renaming.put_text.Goals as goal

pub returns-in-Err : goal.returns-in-Err
returns-in-Err g c = (true, quiet, (c.put_refusal.ensures, tt))
