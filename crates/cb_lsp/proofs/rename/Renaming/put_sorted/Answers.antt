use Rattle.std.proofs.Common.{◌∙◌, ap, false, subst, sym, true}
use Rattle.std.specs.Option.{option_map}
use Rattle.cb_wire.specs.Messages.{id_json}
use Rattle.cb_lsp.specs.Bodies.{Replies}
use Rattle.cb_lsp.specs.Messages.{reply_unless}
use Rattle.cb_lsp.specs.NameRenames.{answer_unless, renamed_found}
use Rattle.cb_lsp.specs.WordUses.{references_in}
use Rattle.cb_lsp.specs.steps.Located.{client_in}
use Rattle.cb_lsp.specs.steps.Renames.{reason_of, work_in}
use Rattle.cb_lsp.proofs.Notices.{quiet}
use Rattle.cb_lsp.proofs.rename.Renaming.put_sorted.Goals as goal

pub returns-in-Ok-None : goal.returns-in-Ok-None
returns-in-Ok-None g c =
    let f = c.args.self.now in
    let k = client_in f.asked.forms in
    let w = work_in f in
    let us = references_in w.world f.asked.name.now f.asked.source.now c.args.sort c.args.word true in
    let call = c.put_sort in
    let put = call.ensures in
    let why = ap (option_map reason_of) (sym c.in-Ok-None.field-0-is) ∙ c.in-Ok-None.ensures in (
      put.0,
      put.1,
      subst (λ r. Replies (g.D.Disk.finds c.args.disk.now) (reply_unless put.0 (id_json c.args.id)
          (answer_unless r (renamed_found put.1 k w f.asked.source.now f.new_name.now c.args.sort c.args.word us))) c.args.out.now call.new.out call.result)
          why put.2,
    )

pub returns-in-Ok-Some : goal.returns-in-Ok-Some
returns-in-Ok-Some g c =
    let f = c.args.self.now in
    let k = client_in f.asked.forms in
    let w = work_in f in
    let us = references_in w.world f.asked.name.now f.asked.source.now c.args.sort c.args.word true in
    let call = c.put_unedited in
    let why = ap (option_map reason_of) (sym c.in-Ok-Some.field-0-is) ∙ c.in-Ok-Some.ensures in (
      false,
      quiet,
      subst (λ r. Replies (g.D.Disk.finds c.args.disk.now) (reply_unless false (id_json c.args.id)
          (answer_unless r (renamed_found quiet k w f.asked.source.now f.new_name.now c.args.sort c.args.word us))) c.args.out.now call.new.out call.result)
          why (call.ensures, tt),
    )

pub returns-in-Err : goal.returns-in-Err
returns-in-Err g c = (true, quiet, (c.put_refusal.ensures, tt))
