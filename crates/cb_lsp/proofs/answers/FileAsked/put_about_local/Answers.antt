use Rattle.std.proofs.Common.{subst, sym, map}
use Rattle.cb_tags.specs.Writing.{Puts}
use Rattle.cb_wire.specs.Messages.{id_json}
use Rattle.cb_wire.specs.Texts.{frame}
use Rattle.cb_wire.specs.Trees.{result_reply}
use Rattle.cb_wire.specs.Values.{value_text}
use Rattle.cb_names.specs.declared.local.LocalUse.{LocalUse}
use Rattle.cb_lsp.specs.Answers.{list_of, local_answer, local_hover_at, prepared_local}
use Rattle.cb_lsp.specs.Locals.{definition_places, local_mark, token_place, uses_wanted}
use Rattle.cb_lsp.specs.steps.Located.{client_in}
use Rattle.cb_lsp.proofs.answers.FileAsked.put_about_local.Goals as goal

pub returns-in-Definition : goal.returns-in-Definition
returns-in-Definition g c =
    let f = c.args.self.now in
    let call = c.put_local_definition in
    subst (λ q. Puts c.args.out.now call.new.out call.result
    (frame (value_text (result_reply (id_json c.args.id)
    (local_answer (client_in f.forms) f.name.now f.source.now c.args.own.now c.args.word q)))))
    (sym c.in-Definition.is) (subst (λ d. Puts c.args.out.now call.new.out call.result
    (frame (value_text (result_reply (id_json c.args.id)
    (list_of (definition_places f.forms.root.now f.forms.encoding f.name.now f.source.now d))))))
    c.definition.ensures call.ensures)

pub returns-in-Declaration : goal.returns-in-Declaration
returns-in-Declaration g c =
    let f = c.args.self.now in
    let call = c.put_local_definition-in-Declaration in
    subst (λ q. Puts c.args.out.now call.new.out call.result
    (frame (value_text (result_reply (id_json c.args.id)
    (local_answer (client_in f.forms) f.name.now f.source.now c.args.own.now c.args.word q)))))
    (sym c.in-Declaration.is) (subst (λ d. Puts c.args.out.now call.new.out call.result
    (frame (value_text (result_reply (id_json c.args.id)
    (list_of (definition_places f.forms.root.now f.forms.encoding f.name.now f.source.now d))))))
    c.definition-in-Declaration.ensures call.ensures)

pub returns-in-Hover : goal.returns-in-Hover
returns-in-Hover g c =
    let f = c.args.self.now in
    let call = c.put_local_hover_at in
    subst (λ q. Puts c.args.out.now call.new.out call.result
    (frame (value_text (result_reply (id_json c.args.id)
    (local_answer (client_in f.forms) f.name.now f.source.now c.args.own.now c.args.word q)))))
    (sym c.in-Hover.is) (subst (λ d. Puts c.args.out.now call.new.out call.result
    (frame (value_text (result_reply (id_json c.args.id)
    (local_hover_at (client_in f.forms) f.name.now f.source.now c.args.word d)))))
    c.definition-in-Hover.ensures call.ensures)

pub returns-in-Highlights : goal.returns-in-Highlights
returns-in-Highlights g c =
    let f = c.args.self.now in
    let call = c.put_local_marks in
    subst (λ q. Puts c.args.out.now call.new.out call.result
    (frame (value_text (result_reply (id_json c.args.id)
    (local_answer (client_in f.forms) f.name.now f.source.now c.args.own.now c.args.word q)))))
    (sym c.in-Highlights.is) (subst (λ us. Puts c.args.out.now call.new.out call.result
    (frame (value_text (result_reply (id_json c.args.id)
    (list_of (map (local_mark f.forms.encoding f.source.now) us))))))
    c.uses.ensures call.ensures)

pub returns-in-References : goal.returns-in-References
returns-in-References g c =
    let f = c.args.self.now in
    let call = c.put_local_uses in
    subst (λ q. Puts c.args.out.now call.new.out call.result
    (frame (value_text (result_reply (id_json c.args.id)
    (local_answer (client_in f.forms) f.name.now f.source.now c.args.own.now c.args.word q)))))
    (sym c.in-References.is) (subst (λ us. Puts c.args.out.now call.new.out call.result
    (frame (value_text (result_reply (id_json c.args.id)
    (list_of (map (λ (u : LocalUse). token_place f.forms.root.now f.forms.encoding f.name.now
    f.source.now u.name) (uses_wanted c.in-References.declarations us)))))))
    c.uses-in-References.ensures call.ensures)

pub returns-in-PrepareRename : goal.returns-in-PrepareRename
returns-in-PrepareRename g c =
    let f = c.args.self.now in
    let call = c.put_local_prepared in
    subst (λ q. Puts c.args.out.now call.new.out call.result
    (frame (value_text (result_reply (id_json c.args.id)
    (local_answer (client_in f.forms) f.name.now f.source.now c.args.own.now c.args.word q)))))
    (sym c.in-PrepareRename.is) (subst (λ d. Puts c.args.out.now call.new.out call.result
    (frame (value_text (result_reply (id_json c.args.id)
    (prepared_local (client_in f.forms) f.source.now c.args.word d)))))
    c.definition-in-PrepareRename.ensures call.ensures)

pub returns-in-Callables : goal.returns-in-Callables
returns-in-Callables g c =
    let f = c.args.self.now in
    let call = c.put_null in
    subst (λ q. Puts c.args.out.now call.new.out call.result
    (frame (value_text (result_reply (id_json c.args.id)
    (local_answer (client_in f.forms) f.name.now f.source.now c.args.own.now c.args.word q)))))
    (sym c.in-Callables.is) call.ensures
