use Rattle.std.proofs.Common.{◌∙◌, ap, false, subst}
use Rattle.cb_tags.specs.Writing.{Puts}
use Rattle.cb_wire.specs.Messages.{id_json}
use Rattle.cb_wire.specs.Texts.{frame}
use Rattle.cb_wire.specs.Trees.{result_reply}
use Rattle.cb_wire.specs.Values.{value_text}
use Rattle.cb_lsp.specs.Completions.{completing, completions_of}
use Rattle.cb_lsp.proofs.answers.FileAsked.put_completing.Goals as goal

pub returns-in-Ok : goal.returns-in-Ok
returns-in-Ok g c =
    let w = c.args.self.now.desk.now.timeline.present in (
      false,
      subst (λ js. Puts c.args.out.now c.put_names.new.out c.put_names.result
          (frame (value_text (result_reply (id_json c.args.id) (completions_of js)))))
          (c.new.ensures ∙ ap (λ own. completing w own c.args.word.now) c.in-Ok.ensures)
          c.put_names.ensures,
    )
