use Rattle.std.proofs.Common.{subst, sym, refl, map, [], ◌∷◌, ◌++◌, ap₂}
use Rattle.cb_tags.specs.Writing.{Puts}
use Rattle.cb_wire.specs.Messages.{id_json}
use Rattle.cb_wire.specs.Texts.{frame}
use Rattle.cb_wire.specs.Trees.{result_reply}
use Rattle.cb_wire.specs.Values.{value_text}
use Rattle.std.specs.Prelude.{if◌then◌else◌}
use Rattle.cb_lsp.specs.Answers.{list_of}
use Rattle.cb_lsp.specs.Headers.{files_named, folder_of, without_dots}
use Rattle.cb_lsp.specs.Symbols.{file_place}
use Rattle.cb_lsp.specs.steps.Located.{client_in}
use Rattle.cb_lsp.proofs.Listed.{map-map}
use Rattle.cb_lsp.proofs.answers.FileAsked.put_header.Goals as goal

pub returns-in-Some : goal.returns-in-Some
returns-in-Some g c =
    let f = c.args.self.now in
    let name = folder_of f.name.now ++ c.args.header.now in
    let place = file_place (client_in f.forms) in
    subst (λ b. Puts c.args.out.now c.put_list.new.out c.put_list.result
    (frame (value_text (result_reply (id_json c.args.id) (list_of (map place
    (if b then name ∷ [] else files_named (without_dots c.args.header.now)
    f.desk.now.timeline.present.files)))))))
    (sym c.in-Some.ensures.0)
    (subst (λ n. Puts c.args.out.now c.put_list.new.out c.put_list.result
    (frame (value_text (result_reply (id_json c.args.id) (list_of (place n ∷ []))))))
    c.in-Some.ensures.1
    (c.put_list.ensures (place c.in-Some.name.now ∷ []) refl))

pub returns-in-None : goal.returns-in-None
returns-in-None g c =
    let f = c.args.self.now in
    let name = folder_of f.name.now ++ c.args.header.now in
    let place = file_place (client_in f.forms) in
    let found = files_named c.without_dots.result.now c.files.result in
    subst (λ b. Puts c.args.out.now c.put_list-in-None.new.out c.put_list-in-None.result
    (frame (value_text (result_reply (id_json c.args.id) (list_of (map place
    (if b then name ∷ [] else files_named (without_dots c.args.header.now)
    f.desk.now.timeline.present.files)))))))
    (sym c.in-None.ensures)
    (subst (λ ns. Puts c.args.out.now c.put_list-in-None.new.out c.put_list-in-None.result
    (frame (value_text (result_reply (id_json c.args.id) (list_of (map place ns))))))
    (ap₂ files_named c.without_dots.ensures c.files.ensures.value)
    (c.put_list-in-None.ensures (map place found) (map-map value_text place found)))
