use Rattle.std.proofs.Common.{◌∙◌, Some, ap, subst, sym, false}
use Rattle.cb_names.specs.Locals.{LocalName}
use Rattle.cb_tags.specs.Writing.{Puts}
use Rattle.cb_wire.specs.Messages.{id_json}
use Rattle.cb_wire.specs.Texts.{frame}
use Rattle.cb_wire.specs.Trees.{result_reply}
use Rattle.cb_wire.specs.Values.{value_text}
use Rattle.cb_lsp.specs.Answers.{local_answer, named_answer}
use Rattle.cb_lsp.specs.Messages.{result_unless}
use Rattle.cb_lsp.specs.Words.{word_at}
use Rattle.cb_lsp.specs.steps.Located.{client_in}
use Rattle.cb_lsp.proofs.answers.FileAsked.put_about_name.Goals as goal

pub returns-in-Ok-None : goal.returns-in-Ok-None
returns-in-Ok-None g c =
    let f = c.args.self.now in
    let w = f.desk.now.timeline.present in
    let call = c.put_about_text in (
      call.ensures.0,
      subst (λ o. Puts c.args.out.now call.new.out call.result
          (frame (value_text (result_unless call.ensures.0 (id_json c.args.id)
          (named_answer (client_in f.forms) w f.name.now f.source.now f.facts.now.defs
          c.args.place o c.args.question)))))
          (sym c.in-Ok-None.field-0-is ∙ c.in-Ok-None.ensures) call.ensures.1,
    )

pub returns-in-Ok-Some : goal.returns-in-Ok-Some
returns-in-Ok-Some g c =
    let f = c.args.self.now in
    let w = f.desk.now.timeline.present in
    let q = c.args.question in
    let call = c.put_about_local in (
      false,
      subst (λ o. Puts c.args.out.now call.new.out call.result
          (frame (value_text (result_unless false (id_json c.args.id)
          (named_answer (client_in f.forms) w f.name.now f.source.now f.facts.now.defs
          c.args.place o q)))))
          (ap Some c.in-Ok-Some.own-is ∙ sym c.in-Ok-Some.field-0-is ∙ c.in-Ok-Some.ensures)
          (subst (λ (l : LocalName). Puts c.args.out.now call.new.out call.result
          (frame (value_text (result_reply (id_json c.args.id)
          (local_answer (client_in f.forms) f.name.now f.source.now l
          (word_at f.source.now c.args.place) q)))))
          c.local.ensures
          (subst (λ o. Puts c.args.out.now call.new.out call.result
          (frame (value_text (result_reply (id_json c.args.id)
          (local_answer (client_in f.forms) f.name.now f.source.now c.local.result.now o q)))))
          c.word_at-word.ensures call.ensures)),
    )
