use Rattle.std.proofs.Common.{List, Some, None, subst}
use Rattle.cb_index.specs.Rows.{Fact}
use Rattle.cb_wire.specs.Messages.{id_json}
use Rattle.cb_lsp.specs.Renames.{all_edits, checked}
use Rattle.cb_lsp.specs.steps.Located.{client_in}
use Rattle.cb_lsp.specs.steps.Renames.{ComesTo, reason_of, work_in}
use Rattle.cb_lsp.specs.steps.Same.{spots_left}
use Rattle.cb_lsp.proofs.Unedited.{renamed-none, renamed-so}
use Rattle.cb_lsp.proofs.rename.Renaming.put_all.Goals as goal

pub returns-in-Some : goal.returns-in-Some
returns-in-Some g c =
    let f = c.args.self.now in
    let w = work_in f in
    let cl = client_in f.asked.forms in
    let finds = g.D.Disk.finds c.args.disk.now in
    let us = spots_left c.args.uses in
    let why = c.in-Some.ensures in (
      why.0,
      renamed-so finds (checked why.0 cl w us) (all_edits cl w.world.files f.new_name.now us)
          (reason_of c.in-Some.why) (id_json c.args.id) _ _ c.put_unedited.result
          (subst (λ (vs : List Fact). ComesTo finds (checked why.0 cl w vs)
          (Some c.in-Some.why)) c.again.ensures why.1) c.put_unedited.ensures,
    )

pub returns-in-None : goal.returns-in-None
returns-in-None g c =
    let f = c.args.self.now in
    let w = work_in f in
    let cl = client_in f.asked.forms in
    let finds = g.D.Disk.finds c.args.disk.now in
    let us = spots_left c.args.uses in
    let why = c.in-None.ensures in
    let call = c.put_edits in (
      why.0,
      renamed-none finds (checked why.0 cl w us) (all_edits cl w.world.files f.new_name.now us)
          (id_json c.args.id) _ _ call.result
          (subst (λ (vs : List Fact). ComesTo finds (checked why.0 cl w vs) None)
          c.again.ensures why.1) call.ensures,
    )
