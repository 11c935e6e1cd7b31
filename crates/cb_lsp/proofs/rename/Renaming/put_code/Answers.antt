use Rattle.std.proofs.Common.{◌∙◌, ap, subst, sym, true}
use Rattle.cb_names.specs.Meanings.{local_at}
use Rattle.cb_lsp.specs.Bodies.{Replies}
use Rattle.cb_wire.specs.Messages.{id_json}
use Rattle.cb_lsp.specs.NameRenames.{renamed_name}
use Rattle.cb_lsp.specs.Messages.{reply_unless}
use Rattle.cb_lsp.specs.steps.Located.{client_in}
use Rattle.cb_lsp.specs.steps.Renames.{work_in}
use Rattle.cb_lsp.proofs.Notices.{quiet}
use Rattle.cb_lsp.proofs.rename.Renaming.put_code.Goals as goal

pub returns-in-Ok-None : goal.returns-in-Ok-None
returns-in-Ok-None g c =
    let f = c.args.self.now in
    let text = f.asked.source.now in
    let k = client_in f.asked.forms in
    let call = c.put_name in
    let put = call.ensures in
    let is = ap (renamed_name put.1 k (work_in f) f.asked.name.now text f.new_name.now
    c.args.place) (sym c.in-Ok-None.field-0-is ∙ c.in-Ok-None.ensures
    ∙ ap (λ t. local_at t c.args.place) c.requires.code) in (
      put.0,
      put.1,
      subst (λ a. Replies (g.D.Disk.finds c.args.disk.now) (reply_unless put.0
          (id_json c.args.id) a) c.args.out.now call.new.out call.result) is put.2,
    )

pub returns-in-Ok-Some : goal.returns-in-Ok-Some
returns-in-Ok-Some g c =
    let f = c.args.self.now in
    let text = f.asked.source.now in
    let k = client_in f.asked.forms in
    let call = c.put_local in
    let put = call.ensures in
    let is = ap (renamed_name put.1 k (work_in f) f.asked.name.now text f.new_name.now
    c.args.place) (sym c.in-Ok-Some.field-0-is ∙ c.in-Ok-Some.ensures
    ∙ ap (λ t. local_at t c.args.place) c.requires.code) in (
      put.0,
      put.1,
      subst (λ a. Replies (g.D.Disk.finds c.args.disk.now) (reply_unless put.0
          (id_json c.args.id) a) c.args.out.now call.new.out call.result) is put.2,
    )

pub returns-in-Err : goal.returns-in-Err
returns-in-Err g c = (true, quiet, (c.put_refusal.ensures, tt))
