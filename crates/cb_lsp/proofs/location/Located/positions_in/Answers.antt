use Rattle.std.proofs.Common.{◌≡◌, [], subst}
use Rattle.cb_desk.specs.World.{text_of_file}
use Rattle.cb_lsp.specs.steps.Located.{Locating}
use Rattle.cb_lsp.proofs.NoText.{no-file}
use Rattle.cb_lsp.proofs.location.Located.positions_in.Goals as goal

pub returns-in_default-source-clause-found : goal.returns-in_default-source-clause-found
returns-in_default-source-clause-found c =
    subst (λ (l : Locating). text_of_file l.files c.args.file.now ≡ []) c.self.view_is
    (no-file _ _ c.in_default-source.ensures)
