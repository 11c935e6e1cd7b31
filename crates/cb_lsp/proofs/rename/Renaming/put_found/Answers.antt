use Rattle.std.proofs.Common.{◌∙◌, ℕ, List, ap, map, subst, sym}
use Rattle.std.specs.Option.{option_map}
use Rattle.cb_index.specs.Rows.{tags_named}
use Rattle.cb_index.specs.steps.Left.{fact_of_spot}
use Rattle.cb_wire.specs.Messages.{id_json}
use Rattle.cb_lsp.specs.Answers.{reply_with}
use Rattle.cb_lsp.specs.Bodies.{Replies}
use Rattle.cb_lsp.specs.NameRenames.{answer_unless, renamed_uses, unless_kept}
use Rattle.cb_lsp.specs.steps.Located.{client_in}
use Rattle.cb_lsp.specs.steps.Renames.{reason_of, work_in}
use Rattle.cb_lsp.proofs.Notices.{quiet}
use Rattle.cb_lsp.proofs.rename.Renaming.put_found.Goals as goal

pub returns-in-Some : goal.returns-in-Some
returns-in-Some g c =
    let f = c.args.self.now in
    let k = client_in f.asked.forms in
    let us = map fact_of_spot c.args.spots.now in
    let w = (work_in f).world in
    let kept = λ (key : List ℕ). unless_kept c.args.sort (tags_named w.profile key w.files) us in
    let call = c.put_unedited in
    let why = ap (option_map reason_of) (sym c.in-Some.is) ∙ (c.unless_kept.ensures ∙ ap kept c.bytes_of.ensures) in (
      quiet,
      subst (λ r. Replies (g.D.Disk.finds c.args.disk.now) (reply_with (id_json c.args.id)
          (answer_unless r (renamed_uses quiet k (work_in f) f.new_name.now us))) c.args.out.now call.new.out call.result)
          why (call.ensures, tt),
    )

pub returns-in-None : goal.returns-in-None
returns-in-None g c =
    let f = c.args.self.now in
    let k = client_in f.asked.forms in
    let us = map fact_of_spot c.args.spots.now in
    let w = (work_in f).world in
    let kept = λ (key : List ℕ). unless_kept c.args.sort (tags_named w.profile key w.files) us in
    let call = c.put_spots in
    let why = ap (option_map reason_of) (sym c.in-None.is) ∙ (c.unless_kept.ensures ∙ ap kept c.bytes_of.ensures) in (
      call.ensures.0,
      subst (λ r. Replies (g.D.Disk.finds c.args.disk.now) (reply_with (id_json c.args.id)
          (answer_unless r (renamed_uses call.ensures.0 k (work_in f) f.new_name.now us))) c.args.out.now call.new.out call.result)
          why call.ensures.1,
    )
