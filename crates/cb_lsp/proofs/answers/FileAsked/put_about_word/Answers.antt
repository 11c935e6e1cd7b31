use Rattle.std.proofs.Common.{false, subst, sym}
use Rattle.cb_tags.specs.Writing.{Puts}
use Rattle.cb_wire.specs.Messages.{id_json}
use Rattle.cb_wire.specs.Texts.{frame}
use Rattle.cb_wire.specs.Values.{value_text}
use Rattle.cb_lsp.specs.Answers.{highlights_of, word_answer}
use Rattle.cb_lsp.specs.Messages.{result_unless}
use Rattle.cb_lsp.specs.Renames.{prepared}
use Rattle.cb_lsp.specs.steps.Located.{client_in}
use Rattle.cb_lsp.proofs.answers.FileAsked.put_about_word.Goals as goal

pub returns-in-Definition : goal.returns-in-Definition
returns-in-Definition g c =
    let f = c.args.self.now in
    let call = c.put_places in (
      call.ensures.0,
      subst (λ q. Puts c.args.out.now call.new.out call.result
          (frame (value_text (result_unless call.ensures.0 (id_json c.args.id)
          (word_answer (client_in f.forms) f.desk.now.timeline.present f.name.now f.source.now
          c.args.space c.args.word q)))))
          (sym c.in-Definition.is) call.ensures.1,
    )

pub returns-in-Declaration : goal.returns-in-Declaration
returns-in-Declaration g c =
    let f = c.args.self.now in
    let call = c.put_places-in-Declaration in (
      call.ensures.0,
      subst (λ q. Puts c.args.out.now call.new.out call.result
          (frame (value_text (result_unless call.ensures.0 (id_json c.args.id)
          (word_answer (client_in f.forms) f.desk.now.timeline.present f.name.now f.source.now
          c.args.space c.args.word q)))))
          (sym c.in-Declaration.is) call.ensures.1,
    )

pub returns-in-Hover : goal.returns-in-Hover
returns-in-Hover g c =
    let f = c.args.self.now in
    let call = c.put_hover in (
      call.ensures.0,
      subst (λ q. Puts c.args.out.now call.new.out call.result
          (frame (value_text (result_unless call.ensures.0 (id_json c.args.id)
          (word_answer (client_in f.forms) f.desk.now.timeline.present f.name.now f.source.now
          c.args.space c.args.word q)))))
          (sym c.in-Hover.is) call.ensures.1,
    )

pub returns-in-References : goal.returns-in-References
returns-in-References g c =
    let f = c.args.self.now in
    let call = c.put_references in (
      call.ensures.0,
      subst (λ q. Puts c.args.out.now call.new.out call.result
          (frame (value_text (result_unless call.ensures.0 (id_json c.args.id)
          (word_answer (client_in f.forms) f.desk.now.timeline.present f.name.now f.source.now
          c.args.space c.args.word q)))))
          (sym c.in-References.is) call.ensures.1,
    )

pub returns-in-Callables : goal.returns-in-Callables
returns-in-Callables g c =
    let f = c.args.self.now in
    let call = c.put_callables_at in (
      call.ensures.0,
      subst (λ q. Puts c.args.out.now call.new.out call.result
          (frame (value_text (result_unless call.ensures.0 (id_json c.args.id)
          (word_answer (client_in f.forms) f.desk.now.timeline.present f.name.now f.source.now
          c.args.space c.args.word q)))))
          (sym c.in-Callables.is) call.ensures.1,
    )

pub returns-in-Highlights : goal.returns-in-Highlights
returns-in-Highlights g c =
    let f = c.args.self.now in
    let w = f.desk.now.timeline.present in
    let call = c.put_highlights in (
      call.ensures.0,
      subst (λ q. Puts c.args.out.now call.new.out call.result
          (frame (value_text (result_unless call.ensures.0 (id_json c.args.id)
          (word_answer (client_in f.forms) w f.name.now f.source.now
          c.args.space c.args.word q)))))
          (sym c.in-Highlights.is) (subst (λ fs. Puts c.args.out.now call.new.out call.result
          (frame (value_text (result_unless call.ensures.0 (id_json c.args.id)
          (highlights_of f.forms.encoding w f.name.now f.source.now fs c.args.space c.args.word)))))
          c.requires call.ensures.1),
    )

pub returns-in-PrepareRename : goal.returns-in-PrepareRename
returns-in-PrepareRename g c =
    let f = c.args.self.now in
    let call = c.put_prepared in (
      false,
      subst (λ q. Puts c.args.out.now call.new.out call.result
          (frame (value_text (result_unless false (id_json c.args.id)
          (word_answer (client_in f.forms) f.desk.now.timeline.present f.name.now f.source.now
          c.args.space c.args.word q)))))
          (sym c.in-PrepareRename.is) (subst (λ o. Puts c.args.out.now call.new.out call.result
          (frame (value_text (result_unless false (id_json c.args.id)
          (prepared (client_in f.forms) f.source.now o)))))
          c.renamable.ensures call.ensures),
    )
