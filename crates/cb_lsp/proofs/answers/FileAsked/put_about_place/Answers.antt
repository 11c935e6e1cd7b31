use Rattle.std.proofs.Common.{subst, false, map}
use Rattle.cb_tags.specs.Writing.{Puts}
use Rattle.cb_wire.specs.Messages.{id_json}
use Rattle.cb_wire.specs.Texts.{frame}
use Rattle.cb_wire.specs.Trees.{result_reply}
use Rattle.cb_wire.specs.Values.{value_text}
use Rattle.cb_lsp.specs.Answers.{list_of, named_answer, place_answer}
use Rattle.cb_lsp.specs.Headers.{header_files}
use Rattle.cb_lsp.specs.Messages.{result_unless}
use Rattle.cb_lsp.specs.Parameters.{parameter_there}
use Rattle.cb_lsp.specs.Symbols.{file_place}
use Rattle.cb_lsp.specs.steps.Located.{client_in}
use Rattle.cb_lsp.proofs.answers.FileAsked.put_about_place.Goals as goal

pub returns-in-Some : goal.returns-in-Some
returns-in-Some g c =
    let f = c.args.self.now in
    let w = f.desk.now.timeline.present in
    let call = c.put_header in (
      false,
      subst (λ o. Puts c.args.out.now call.new.out call.result
          (frame (value_text (result_unless false (id_json c.args.id)
          (place_answer (client_in f.forms) w f.name.now f.source.now c.args.place o
          c.args.question)))))
          c.in-Some.ensures
          (subst (λ h. Puts c.args.out.now call.new.out call.result
          (frame (value_text (result_reply (id_json c.args.id)
          (list_of (map (file_place (client_in f.forms)) (header_files w.files f.name.now h)))))))
          c.bytes_of.ensures call.ensures),
    )

pub returns-in-None : goal.returns-in-None
returns-in-None g c =
    let f = c.args.self.now in
    let w = f.desk.now.timeline.present in
    let at = c.args.place in
    let q = c.args.question in
    let call = c.put_about_name in (
      call.ensures.0,
      subst (λ o. Puts c.args.out.now call.new.out call.result
          (frame (value_text (result_unless call.ensures.0 (id_json c.args.id)
          (place_answer (client_in f.forms) w f.name.now f.source.now at o q)))))
          c.in-None.ensures
          (subst (λ fs. Puts c.args.out.now call.new.out call.result
          (frame (value_text (result_unless call.ensures.0 (id_json c.args.id)
          (named_answer (client_in f.forms) w f.name.now f.source.now fs.defs at
          (parameter_there fs.defs f.source.now at) q)))))
          c.requires.facts call.ensures.1),
    )
