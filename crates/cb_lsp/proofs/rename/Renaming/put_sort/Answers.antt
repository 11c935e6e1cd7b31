use Rattle.std.proofs.Common.{◌∙◌, ap, false, map, subst, sym, true}
use Rattle.cb_index.specs.steps.Left.{fact_of_spot}
use Rattle.cb_wire.specs.Messages.{id_json}
use Rattle.cb_lsp.specs.Bodies.{Replies}
use Rattle.cb_lsp.specs.Messages.{reply_unless}
use Rattle.cb_lsp.specs.NameRenames.{renamed_found}
use Rattle.cb_lsp.specs.steps.Located.{client_in}
use Rattle.cb_lsp.specs.steps.References.{UsesAreByPlace}
use Rattle.cb_lsp.specs.steps.Renames.{work_in}
use Rattle.cb_lsp.proofs.Notices.{quiet}
use Rattle.cb_lsp.proofs.rename.Renaming.put_sort.Goals as goal

pub put_found-requires : goal.put_found-requires
put_found-requires g c =
    subst UsesAreByPlace (sym (ap (map fact_of_spot) c.as_slice.ensures.value)) c.in-Ok.ensures.order

pub returns-in-Ok : goal.returns-in-Ok
returns-in-Ok g c =
    let f = c.args.self.now in
    let k = client_in f.asked.forms in
    let call = c.put_found in
    let put = call.ensures in (
      false,
      put.0,
      subst (λ us. Replies (g.D.Disk.finds c.args.disk.now) (reply_unless false (id_json c.args.id)
          (renamed_found put.0 k (work_in f) f.asked.source.now f.new_name.now c.args.sort c.args.word us)) c.args.out.now call.new.out call.result)
          (ap (map fact_of_spot) c.as_slice.ensures.value ∙ c.in-Ok.ensures.uses) put.1,
    )

pub returns-in-Err : goal.returns-in-Err
returns-in-Err g c = (true, quiet, (c.put_refusal.ensures, tt))
