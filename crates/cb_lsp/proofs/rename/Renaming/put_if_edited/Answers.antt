use Rattle.std.proofs.Common.{Bool, subst}
use Rattle.cb_wire.specs.Edits.{edits_of}
use Rattle.cb_wire.specs.Messages.{id_json}
use Rattle.cb_lsp.specs.Answers.{reply_with}
use Rattle.cb_lsp.specs.Bodies.{Replies}
use Rattle.cb_lsp.specs.LocalRenames.{edited_if, local_edits}
use Rattle.cb_lsp.specs.Renames.{check}
use Rattle.cb_lsp.specs.steps.Located.{client_in}
use Rattle.cb_lsp.specs.steps.Renames.{reason_of, work_in}
use Rattle.cb_lsp.specs.steps.Works.{one_change}
use Rattle.cb_lsp.proofs.Unedited.{renamed-none, renamed-so}
use Rattle.cb_lsp.proofs.rename.Renaming.put_if_edited.Goals as goal

pub returns-in-Some : goal.returns-in-Some
returns-in-Some g c =
    let f = c.args.self.now in
    let k = client_in f.asked.forms in
    let w = work_in f in
    let name = f.asked.name.now in
    let us = c.args.uses.now in
    let finds = g.D.Disk.finds c.args.disk.now in
    let why = c.in-Some.ensures in
    let o = one_change why.0 why.1 in (
      o,
      subst (λ (open' : Bool). Replies finds (reply_with (id_json c.args.id) (edited_if k name f.asked.source.now
          f.new_name.now us (check o k w open' name))) c.args.out.now c.put_unedited.new.out c.put_unedited.result)
          c.is_open-is_open.ensures
          (renamed-so finds (check o k w c.is_open-is_open.result name)
          (edits_of (local_edits k name f.asked.source.now f.new_name.now us)) (reason_of c.in-Some.why)
          (id_json c.args.id) _ _ c.put_unedited.result why.2 c.put_unedited.ensures),
    )

pub returns-in-None : goal.returns-in-None
returns-in-None g c =
    let f = c.args.self.now in
    let k = client_in f.asked.forms in
    let w = work_in f in
    let name = f.asked.name.now in
    let us = c.args.uses.now in
    let finds = g.D.Disk.finds c.args.disk.now in
    let why = c.in-None.ensures in
    let o = one_change why.0 why.1 in
    let call = c.put_local_edits in (
      o,
      subst (λ (open' : Bool). Replies finds (reply_with (id_json c.args.id) (edited_if k name f.asked.source.now
          f.new_name.now us (check o k w open' name))) c.args.out.now call.new.out call.result)
          c.is_open-is_open.ensures
          (renamed-none finds (check o k w c.is_open-is_open.result name)
          (edits_of (local_edits k name f.asked.source.now f.new_name.now us)) (id_json c.args.id) _ _ call.result
          why.2 call.ensures),
    )
