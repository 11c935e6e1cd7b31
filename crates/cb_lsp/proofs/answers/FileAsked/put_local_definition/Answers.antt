use Rattle.std.proofs.Common.{subst, sym, ap, map, refl, [], ◌∷◌}
use Rattle.cb_tags.specs.Writing.{Puts}
use Rattle.cb_wire.specs.Messages.{id_json}
use Rattle.cb_wire.specs.Texts.{frame}
use Rattle.cb_wire.specs.Trees.{result_reply}
use Rattle.cb_wire.specs.Values.{value_text}
use Rattle.cb_wire.specs.Locations.{location_of, location_text}
use Rattle.cb_lsp.specs.Answers.{list_of}
use Rattle.cb_lsp.specs.Locals.{definition_places}
use Rattle.cb_lsp.proofs.answers.FileAsked.put_local_definition.Goals as goal

pub returns-in-Some : goal.returns-in-Some
returns-in-Some g c =
    let f = c.args.self.now in
    let call = c.put_list in
    subst (λ d. Puts c.args.out.now call.new.out call.result
    (frame (value_text (result_reply (id_json c.args.id) (list_of
    (definition_places f.forms.root.now f.forms.encoding f.name.now f.source.now d))))))
    (sym c.in-Some.is)
    (subst (λ r. Puts c.args.out.now call.new.out call.result
    (frame (value_text (result_reply (id_json c.args.id) (list_of
    (location_of f.forms.root.now f.name.now r ∷ []))))))
    c.range_of.ensures
    (call.ensures (location_of f.forms.root.now f.name.now c.range_of.result ∷ [])
    (ap (map location_text) c.as_slice.ensures)))

pub returns-in-None : goal.returns-in-None
returns-in-None g c =
    let f = c.args.self.now in
    let call = c.put_list-in-None in
    subst (λ d. Puts c.args.out.now call.new.out call.result
    (frame (value_text (result_reply (id_json c.args.id) (list_of
    (definition_places f.forms.root.now f.forms.encoding f.name.now f.source.now d))))))
    (sym c.in-None.is) (call.ensures [] refl)
