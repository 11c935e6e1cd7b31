use Rattle.std.proofs.Common.{◌∙◌, false, map, subst, sym}
use Rattle.cb_tags.specs.Writing.{Puts}
use Rattle.cb_wire.specs.Messages.{id_json}
use Rattle.cb_wire.specs.Texts.{frame}
use Rattle.cb_wire.specs.Values.{value_text}
use Rattle.cb_lsp.specs.Answers.{highlights_of, list_of}
use Rattle.cb_lsp.specs.Highlights.{highlight}
use Rattle.cb_lsp.specs.Messages.{result_unless}
use Rattle.cb_lsp.proofs.answers.FileAsked.put_highlights.Goals as goal

pub returns-in_default : goal.returns-in_default
returns-in_default g c =
    let f = c.args.self.now in (
      false,
      subst (λ o. Puts c.args.out.now c.put_marks.new.out c.put_marks.result
          (frame (value_text (result_unless false (id_json c.args.id)
          (highlights_of f.forms.encoding f.desk.now.timeline.present f.name.now f.source.now
          f.facts.now c.args.space o)))))
          (sym c.in_default.is) c.put_marks.ensures,
    )

pub returns-in-Ok : goal.returns-in-Ok
returns-in-Ok g c =
    let f = c.args.self.now in
    let call = c.put_marks-in-Ok in (
      false,
      subst (λ o. Puts c.args.out.now call.new.out call.result
          (frame (value_text (result_unless false (id_json c.args.id)
          (highlights_of f.forms.encoding f.desk.now.timeline.present f.name.now f.source.now
          f.facts.now c.args.space o)))))
          (sym c.in-Some.is)
          (subst (λ us. Puts c.args.out.now call.new.out call.result
          (frame (value_text (result_unless false (id_json c.args.id)
          (list_of (map (highlight f.forms.encoding f.source.now) us))))))
          (c.as_slice.ensures.value ∙ c.in-Ok.ensures) call.ensures),
    )
