use Rattle.std.proofs.Common.{subst, sym, ap, ◌∙◌, map, append-nil, [], ◌∷◌}
use Rattle.cb_tags.specs.Writing.{Puts}
use Rattle.cb_wire.specs.Messages.{id_json}
use Rattle.cb_wire.specs.Texts.{frame}
use Rattle.cb_wire.specs.Trees.{result_reply}
use Rattle.cb_wire.specs.Values.{value_text}
use Rattle.cb_lsp.specs.Answers.{local_hover}
use Rattle.cb_lsp.specs.Hovers.{hover_at_place, hover_of}
use Rattle.cb_lsp.specs.steps.Elements.{hover_element}
use Rattle.cb_lsp.specs.steps.Located.{client_in}
use Rattle.cb_lsp.proofs.answers.FileAsked.put_local_hover.Goals as goal

pub returns-in-Some : goal.returns-in-Some
returns-in-Some g c =
    let f = c.args.self.now in
    let call = c.put_hovers in
    let shown = hover_at_place f.name.now f.source.now c.in-Some.span.start in
    subst (λ d. Puts c.args.out.now call.new.out call.result
    (frame (value_text (result_reply (id_json c.args.id)
    (local_hover (client_in f.forms) f.name.now f.source.now c.args.word d)))))
    (sym c.in-Some.is)
    (subst (λ r. Puts c.args.out.now call.new.out call.result
    (frame (value_text (result_reply (id_json c.args.id) (hover_of shown r)))))
    c.range_of-range.ensures
    (subst (λ t. Puts c.args.out.now call.new.out call.result
    (frame (value_text (result_reply (id_json c.args.id) (hover_of t c.range_of-range.result)))))
    (append-nil shown)
    (call.ensures (shown ∷ [])
    (ap (map hover_element) c.as_slice.ensures ∙ ap (λ t. t ∷ []) c.at_place-line.ensures))))

pub returns-in-None : goal.returns-in-None
returns-in-None g c =
    let f = c.args.self.now in
    let call = c.put_null in
    subst (λ d. Puts c.args.out.now call.new.out call.result
    (frame (value_text (result_reply (id_json c.args.id)
    (local_hover (client_in f.forms) f.name.now f.source.now c.args.word d)))))
    (sym c.in-None.is) call.ensures
