use Rattle.std.proofs.Common.{◌∙◌, ap, subst, true}
use Rattle.cb_wire.specs.Messages.{id_json}
use Rattle.cb_lsp.specs.Bodies.{Replies}
use Rattle.cb_lsp.specs.Messages.{reply_unless}
use Rattle.cb_lsp.specs.NameRenames.{renamed_word}
use Rattle.cb_lsp.specs.Renames.{if_renamable}
use Rattle.cb_lsp.specs.WordSpaces.{space_there}
use Rattle.cb_lsp.specs.steps.Located.{client_in}
use Rattle.cb_lsp.specs.steps.Renames.{work_in}
use Rattle.cb_lsp.proofs.Notices.{quiet}
use Rattle.cb_lsp.proofs.rename.Renaming.put_name.Goals as goal

pub returns-in-Ok : goal.returns-in-Ok
returns-in-Ok g c =
    let f = c.args.self.now in
    let w = work_in f in
    let text = f.asked.source.now in
    let k = client_in f.asked.forms in
    let call = c.put_word in
    let put = call.ensures in
    let at = c.args.place in
    let space = c.in-Ok.ensures
    ∙ (λ i. space_there (c.requires.facts i).defs text at (c.word_at-word.ensures i)) in
    let word = c.renamable.ensures ∙ ap (if_renamable w.world text) c.word_at-word.ensures in (
      put.0,
      put.1,
      subst (λ a. Replies (g.D.Disk.finds c.args.disk.now) (reply_unless put.0
          (id_json c.args.id) a) c.args.out.now call.new.out call.result)
          (λ i. renamed_word put.1 k w f.asked.name.now text (space i) f.new_name.now (word i)) put.2,
    )

pub returns-in-Err : goal.returns-in-Err
returns-in-Err g c = (true, quiet, (c.put_refusal.ensures, tt))
