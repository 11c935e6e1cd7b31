use Rattle.std.proofs.Common.{subst}
use Rattle.cb_tags.specs.Writing.{Puts}
use Rattle.cb_wire.specs.Texts.{frame}
use Rattle.cb_lsp.specs.steps.Located.{client_in}
use Rattle.cb_lsp.specs.steps.Same.{spots_left}
use Rattle.cb_lsp.proofs.RenameSteps.{edits-written}
use Rattle.cb_lsp.proofs.rename.Renaming.put_edits.Goals as goal

pub returns : goal.returns
returns g c =
    let f = c.args.self.now in
    subst (λ t. Puts c.args.out.now c.put_list_result.new.out c.put_list_result.result (frame t))
    (edits-written c.args.id (client_in f.asked.forms) f.asked.desk.now.timeline.present.files
    f.new_name.now (spots_left c.args.uses) c.new.result c.requires c.new.ensures)
    c.put_list_result.ensures
