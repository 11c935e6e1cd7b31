use Rattle.std.proofs.Common.{◌∙◌, ap, subst, sym, false}
use Rattle.std.specs.Prelude.{Some}
use Rattle.cb_names.specs.Meanings.{local_at}
use Rattle.cb_tags.specs.Writing.{Puts}
use Rattle.cb_wire.specs.Messages.{id_json}
use Rattle.cb_wire.specs.Texts.{frame}
use Rattle.cb_wire.specs.Trees.{result_reply}
use Rattle.cb_wire.specs.Values.{value_text}
use Rattle.cb_lsp.specs.Answers.{local_answer, name_answer, space_asked, word_answer}
use Rattle.cb_lsp.specs.Messages.{result_unless}
use Rattle.cb_lsp.specs.Words.{word_at}
use Rattle.cb_lsp.specs.steps.Located.{client_in}
use Rattle.cb_lsp.proofs.answers.FileAsked.put_about_code.Goals as goal

pub returns-in-Ok : goal.returns-in-Ok
returns-in-Ok g c =
    let f = c.args.self.now in
    let w = f.desk.now.timeline.present in
    let q = c.args.question in
    let word = word_at f.source.now c.args.place in
    let call = c.put_about_word in (
      call.ensures.0,
      subst (λ o. Puts c.args.out.now call.new.out call.result
          (frame (value_text (result_unless call.ensures.0 (id_json c.args.id)
          (name_answer (client_in f.forms) w f.name.now f.source.now o
          (space_asked f.facts.now.defs f.source.now c.args.place word q) word q)))))
          (sym c.in-Ok-None.field-0-is ∙ c.in-Ok-None.ensures
          ∙ ap (λ t. local_at t c.args.place) c.requires.code)
          (subst (λ s. Puts c.args.out.now call.new.out call.result
          (frame (value_text (result_unless call.ensures.0 (id_json c.args.id)
          (word_answer (client_in f.forms) w f.name.now f.source.now s word q)))))
          (c.in-Ok.ensures
          ∙ ap (λ o. space_asked f.facts.now.defs f.source.now c.args.place o q)
          c.word_at-word.ensures)
          (subst (λ o. Puts c.args.out.now call.new.out call.result
          (frame (value_text (result_unless call.ensures.0 (id_json c.args.id)
          (word_answer (client_in f.forms) w f.name.now f.source.now
          c.in-Ok.space o q)))))
          c.word_at-word.ensures call.ensures.1)),
    )

pub returns-in-Ok-Some : goal.returns-in-Ok-Some
returns-in-Ok-Some g c =
    let f = c.args.self.now in
    let w = f.desk.now.timeline.present in
    let q = c.args.question in
    let word = word_at f.source.now c.args.place in
    let call = c.put_about_local in (
      false,
      subst (λ o. Puts c.args.out.now call.new.out call.result
          (frame (value_text (result_unless false (id_json c.args.id)
          (name_answer (client_in f.forms) w f.name.now f.source.now o
          (space_asked f.facts.now.defs f.source.now c.args.place word q) word q)))))
          (ap Some c.in-Ok-Some.own-is ∙ sym c.in-Ok-Some.field-0-is
          ∙ c.in-Ok-Some.ensures ∙ ap (λ t. local_at t c.args.place) c.requires.code)
          (subst (λ o. Puts c.args.out.now call.new.out call.result
          (frame (value_text (result_reply (id_json c.args.id)
          (local_answer (client_in f.forms) f.name.now f.source.now c.in-Ok-Some.own o q)))))
          c.word_at-word.ensures call.ensures),
    )
