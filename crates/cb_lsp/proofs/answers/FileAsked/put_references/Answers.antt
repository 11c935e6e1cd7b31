use Rattle.std.proofs.Common.{◌∙◌, false, ap, map, subst, sym}
use Rattle.cb_index.specs.steps.Left.{fact_of_spot}
use Rattle.cb_tags.specs.Writing.{Puts}
use Rattle.cb_wire.specs.Messages.{id_json}
use Rattle.cb_wire.specs.Texts.{frame}
use Rattle.cb_wire.specs.Values.{value_text}
use Rattle.cb_lsp.specs.Answers.{list_of, references_of_word}
use Rattle.cb_lsp.specs.Messages.{result_unless}
use Rattle.cb_lsp.specs.Symbols.{place_of_use}
use Rattle.cb_lsp.specs.steps.Located.{client_in}
use Rattle.cb_lsp.proofs.answers.FileAsked.put_references.Goals as goal

pub returns-in_default : goal.returns-in_default
returns-in_default g c =
    let f = c.args.self.now in (
      false,
      subst (λ o. Puts c.args.out.now c.put_spots.new.out c.put_spots.result
          (frame (value_text (result_unless false (id_json c.args.id)
          (references_of_word (client_in f.forms) f.desk.now.timeline.present f.name.now f.source.now
          c.args.space c.args.declarations o)))))
          (sym c.in_default.is) c.put_spots.ensures,
    )

pub returns-in-Ok : goal.returns-in-Ok
returns-in-Ok g c =
    let f = c.args.self.now in
    let w = f.desk.now.timeline.present in
    let call = c.put_spots-in-Ok in (
      false,
      subst (λ o. Puts c.args.out.now call.new.out call.result
          (frame (value_text (result_unless false (id_json c.args.id)
          (references_of_word (client_in f.forms) w f.name.now f.source.now c.args.space
          c.args.declarations o)))))
          (sym c.in-Some.is)
          (subst (λ us. Puts c.args.out.now call.new.out call.result
          (frame (value_text (result_unless false (id_json c.args.id)
          (list_of (map (place_of_use (client_in f.forms) w.files) us))))))
          (ap (map fact_of_spot) c.as_slice.ensures.value ∙ c.in-Ok.ensures) call.ensures),
    )
