use Rattle.std.proofs.Common.{◌∙◌, Some, ap, subst, sym, true}
use Rattle.cb_scan.specs.Profiles.{facts_in}
use Rattle.cb_wire.specs.Messages.{id_json}
use Rattle.cb_lsp.specs.Bodies.{Replies}
use Rattle.cb_lsp.specs.NameRenames.{renamed_there}
use Rattle.cb_lsp.specs.Messages.{reply_unless}
use Rattle.cb_lsp.specs.Parameters.{parameter_there}
use Rattle.cb_lsp.specs.steps.Located.{client_in}
use Rattle.cb_lsp.specs.steps.Renames.{work_in}
use Rattle.cb_lsp.proofs.Notices.{quiet}
use Rattle.cb_lsp.proofs.rename.Renaming.put.Goals as goal

pub returns-in-Ok-None : goal.returns-in-Ok-None
returns-in-Ok-None g c =
    let f = c.args.self.now in
    let w = work_in f in
    let text = f.asked.source.now in
    let k = client_in f.asked.forms in
    let call = c.put_text in
    let put = call.ensures in
    let at = c.place-place.result in
    let is = ap (renamed_there put.1 k w f.asked.name.now text f.new_name.now at)
    (sym c.in-Ok-None.field-0-is ∙ c.in-Ok-None.ensures
    ∙ ap (λ fs. parameter_there fs.defs text at) c.requires)
    ∙ ap (λ n. renamed_there put.1 k w f.asked.name.now text f.new_name.now n
    (parameter_there (facts_in w.world.profile text).defs text n)) c.place-place.ensures.value in (
      put.0,
      put.1,
      subst (λ a. Replies (g.D.Disk.finds c.args.disk.now) (reply_unless put.0
          (id_json c.args.id) a) c.args.out.now call.new.out call.result) is put.2,
    )

pub returns-in-Ok-Some : goal.returns-in-Ok-Some
returns-in-Ok-Some g c =
    let f = c.args.self.now in
    let w = work_in f in
    let text = f.asked.source.now in
    let k = client_in f.asked.forms in
    let call = c.put_parameter in
    let put = call.ensures in
    let at = c.place-place.result in
    let is = ap (renamed_there put.1 k w f.asked.name.now text f.new_name.now at)
    (sym c.in-Ok-Some.field-0-is ∙ c.in-Ok-Some.ensures
    ∙ ap (λ fs. parameter_there fs.defs text at) c.requires)
    ∙ ap (λ n. renamed_there put.1 k w f.asked.name.now text f.new_name.now n
    (parameter_there (facts_in w.world.profile text).defs text n)) c.place-place.ensures.value in (
      put.0,
      put.1,
      subst (λ a. Replies (g.D.Disk.finds c.args.disk.now) (reply_unless put.0
          (id_json c.args.id) a) c.args.out.now call.new.out call.result) is put.2,
    )

pub returns-in-Err : goal.returns-in-Err
returns-in-Err g c = (true, quiet, (c.put_refusal.ensures, tt))
