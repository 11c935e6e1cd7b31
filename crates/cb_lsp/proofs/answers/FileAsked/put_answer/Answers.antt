use Rattle.std.proofs.Common.{subst, sym, false, map}
use Rattle.cb_tags.specs.Writing.{Puts}
use Rattle.cb_wire.specs.Messages.{id_json}
use Rattle.cb_wire.specs.Texts.{frame}
use Rattle.cb_wire.specs.Trees.{result_reply}
use Rattle.cb_wire.specs.Values.{value_text}
use Rattle.cb_wire.specs.Positions.{place}
use Rattle.cb_lsp.specs.Answers.{answer_in, header_asked, list_of, place_answer}
use Rattle.cb_lsp.specs.Completions.{completions_at}
use Rattle.cb_lsp.specs.Messages.{result_unless}
use Rattle.cb_lsp.specs.Symbols.{file_symbol}
use Rattle.cb_lsp.specs.steps.Located.{client_in}
use Rattle.cb_lsp.proofs.answers.FileAsked.put_answer.Goals as goal

pub returns-in-Symbols : goal.returns-in-Symbols
returns-in-Symbols g c =
    let f = c.args.self.now in
    let cl = client_in f.forms in (
      false,
      subst (λ q. Puts c.args.out.now c.put_symbols.new.out c.put_symbols.result
          (frame (value_text (result_unless false (id_json c.args.id)
          (answer_in cl f.desk.now.timeline.present f.name.now f.source.now q)))))
          (sym c.in-Symbols.is)
          (subst (λ fs. Puts c.args.out.now c.put_symbols.new.out c.put_symbols.result
          (frame (value_text (result_reply (id_json c.args.id)
          (list_of (map (file_symbol cl f.name.now f.source.now) fs.defs))))))
          c.requires c.put_symbols.ensures),
    )

pub returns-in-At : goal.returns-in-At
returns-in-At g c =
    let f = c.args.self.now in
    let w = f.desk.now.timeline.present in
    let cl = client_in f.forms in
    let asked = c.in-At.question in
    let call = c.put_about_place in (
      call.ensures.0,
      subst (λ q. Puts c.args.out.now call.new.out call.result
          (frame (value_text (result_unless call.ensures.0 (id_json c.args.id)
          (answer_in cl w f.name.now f.source.now q)))))
          (sym c.in-At.is)
          (subst (λ fs. Puts c.args.out.now call.new.out call.result
          (frame (value_text (result_unless call.ensures.0 (id_json c.args.id)
          (let p = place f.forms.encoding f.source.now c.in-At.position in
          place_answer cl w f.name.now f.source.now p (header_asked fs.includes p asked) asked)))))
          c.requires
          (subst (λ p. Puts c.args.out.now call.new.out call.result
          (frame (value_text (result_unless call.ensures.0 (id_json c.args.id)
          (place_answer cl w f.name.now f.source.now p (header_asked f.facts.now.includes p asked)
          asked)))))
          c.place.ensures.value call.ensures.1)),
    )

pub returns-in-Completions : goal.returns-in-Completions
returns-in-Completions g c =
    let f = c.args.self.now in
    let w = f.desk.now.timeline.present in
    let call = c.put_completions in (
      call.ensures.0,
      subst (λ q. Puts c.args.out.now call.new.out call.result
          (frame (value_text (result_unless call.ensures.0 (id_json c.args.id)
          (answer_in (client_in f.forms) w f.name.now f.source.now q)))))
          (sym c.in-Completions.is)
          (subst (λ p. Puts c.args.out.now call.new.out call.result
          (frame (value_text (result_unless call.ensures.0 (id_json c.args.id)
          (completions_at w f.source.now p)))))
          c.place-in-Completions.ensures.value call.ensures.1),
    )
