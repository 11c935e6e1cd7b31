use Rattle.std.proofs.Common.{◌∙◌, List, None, ap, false, subst, sym, true}
use Rattle.std.specs.Option.{option_map}
use Rattle.cb_names.specs.declared.local.LocalUse.{LocalUse}
use Rattle.cb_wire.specs.Messages.{id_json}
use Rattle.cb_lsp.specs.Bodies.{Replies}
use Rattle.cb_lsp.specs.LocalRenames.{edited_unless, unless_parameter}
use Rattle.cb_lsp.specs.Messages.{reply_unless}
use Rattle.cb_lsp.specs.steps.Located.{client_in}
use Rattle.cb_lsp.specs.steps.Renames.{reason_of, work_in}
use Rattle.cb_lsp.proofs.Notices.{quiet}
use Rattle.cb_lsp.proofs.rename.Renaming.put_parameter_from.Goals as goal

pub returns-in-Ok-Some : goal.returns-in-Ok-Some
returns-in-Ok-Some g c =
    let f = c.args.self.now in
    let k = client_in f.asked.forms in
    let w = work_in f in
    let name = f.asked.name.now in
    let text = f.asked.source.now in
    let p = c.args.parameter.now in
    let call = c.put_unedited in
    let why = ap (option_map reason_of) (sym c.in-Ok-Some.field-0-is) ∙ c.in-Ok-Some.ensures
    ∙ (λ i. unless_parameter w.world name text (c.requires i).uses (c.bytes_of-old.ensures i) f.new_name.now p) in (
      false,
      quiet,
      subst (λ r. Replies (g.D.Disk.finds c.args.disk.now) (reply_unless false (id_json c.args.id)
          (edited_unless quiet k w name text f.new_name.now p.name.uses r)) c.args.out.now call.new.out call.result)
          why (call.ensures, tt),
    )

pub returns-in-Ok-None : goal.returns-in-Ok-None
returns-in-Ok-None g c =
    let f = c.args.self.now in
    let k = client_in f.asked.forms in
    let w = work_in f in
    let name = f.asked.name.now in
    let text = f.asked.source.now in
    let p = c.args.parameter.now in
    let call = c.put_if_edited in
    let put = call.ensures in
    let why = ap (option_map reason_of) (sym c.in-Ok-None.field-0-is) ∙ c.in-Ok-None.ensures
    ∙ (λ i. unless_parameter w.world name text (c.requires i).uses (c.bytes_of-old.ensures i) f.new_name.now p) in (
      false,
      put.0,
      subst (λ r. Replies (g.D.Disk.finds c.args.disk.now) (reply_unless false (id_json c.args.id)
          (edited_unless put.0 k w name text f.new_name.now p.name.uses r)) c.args.out.now call.new.out call.result)
          why
          (subst (λ (us : List LocalUse). Replies (g.D.Disk.finds c.args.disk.now) (reply_unless false
          (id_json c.args.id) (edited_unless put.0 k w name text f.new_name.now us None)) c.args.out.now
          call.new.out call.result) (c.uses.ensures ∙ (λ i. (c.local.ensures i).uses)) put.1),
    )

pub returns-in-Err : goal.returns-in-Err
returns-in-Err g c = (true, quiet, (c.put_refusal.ensures, tt))
