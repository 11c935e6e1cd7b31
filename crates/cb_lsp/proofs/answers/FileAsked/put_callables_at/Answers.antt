use Rattle.std.proofs.Common.{◌∙◌, false, ap, map, subst, sym}
use Rattle.cb_tags.specs.TagLines.{tag_of}
use Rattle.cb_tags.specs.Writing.{Puts}
use Rattle.cb_wire.specs.Messages.{id_json}
use Rattle.cb_wire.specs.Texts.{frame}
use Rattle.cb_wire.specs.Values.{value_text}
use Rattle.cb_lsp.specs.Answers.{callables_at, some_of}
use Rattle.cb_lsp.specs.Calls.{item_of}
use Rattle.cb_lsp.specs.Messages.{result_unless}
use Rattle.cb_lsp.specs.steps.Located.{client_in}
use Rattle.cb_lsp.proofs.answers.FileAsked.put_callables_at.Goals as goal

pub returns-in_default : goal.returns-in_default
returns-in_default g c =
    let f = c.args.self.now in (
      false,
      subst (λ o. Puts c.args.out.now c.put_null.new.out c.put_null.result
          (frame (value_text (result_unless false (id_json c.args.id)
          (callables_at (client_in f.forms) f.desk.now.timeline.present f.name.now f.source.now
          c.args.space o)))))
          (sym c.in_default.is) c.put_null.ensures,
    )

pub returns-in-Ok : goal.returns-in-Ok
returns-in-Ok g c =
    let f = c.args.self.now in
    let w = f.desk.now.timeline.present in
    let call = c.put_callable_rows in (
      false,
      subst (λ o. Puts c.args.out.now call.new.out call.result
          (frame (value_text (result_unless false (id_json c.args.id)
          (callables_at (client_in f.forms) w f.name.now f.source.now c.args.space o)))))
          (sym c.in-Some.is)
          (subst (λ ts. Puts c.args.out.now call.new.out call.result
          (frame (value_text (result_unless false (id_json c.args.id)
          (some_of (map (item_of (client_in f.forms) w.files) ts))))))
          (ap (map tag_of) c.as_slice.ensures.value ∙ c.in-Ok.ensures) call.ensures),
    )
