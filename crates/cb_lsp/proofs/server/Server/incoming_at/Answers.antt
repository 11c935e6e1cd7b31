use Rattle.std.proofs.Common.{false, ◌∙◌, ap, sym}
use Rattle.std.specs.Cow.{cow_slice_items}
use Rattle.cb_wire.specs.Messages.{id_json}
use Rattle.cb_wire.specs.Uris.{path_of}
use Rattle.cb_lsp.specs.Answers.{incoming_named, name_of_uri}
use Rattle.cb_lsp.specs.Messages.{Serving, result_unless}
use Rattle.cb_lsp.specs.Questions.{incoming}
use Rattle.cb_lsp.proofs.Asked.{puts-of-file, puts-of-none}
use Rattle.cb_lsp.proofs.Incomings.{incoming-tells}
use Rattle.cb_lsp.proofs.Notices.{no-path, path-found}
use Rattle.cb_lsp.proofs.server.Server.incoming_at.Goals as goal

pub returns-in-Ok-Some : goal.returns-in-Ok-Some
returns-in-Ok-Some g c =
    let s = c.args.self.now in
    let uri = c.args.uri.now in
    let m = c.put_incoming.ensures.0 in
    let id = id_json c.args.id in
    let found = path-found cow_slice_items _ _ _ uri _
    (c.in-Ok-Some.ensures ∙ ap path_of c.as_bytes.ensures.value) c.in-Ok-Some.field-0-is
    c.in-Ok-Some.path-is c.as_slice.ensures.value in (
      m,
      puts-of-file (λ k w f. incoming_named k w c.as_bytes-in-Ok-Some.result.now f)
          (incoming c.args.name.now uri) m s _ _ _ uri c.as_slice.result.now _ id _ _
          c.put_incoming.result c.self.view_is
          (c.forms-forms.ensures ∙ ap (λ (x : Serving). x.client) (sym c.self.view_is))
          c.desk-desk.ensures found c.name-file.ensures
          (ap (λ n. result_unless m id (incoming_named s.client s.work.world n
          (name_of_uri s.client uri))) c.as_bytes-in-Ok-Some.ensures.value
          ∙ incoming-tells m s id c.args.name.now uri)
          c.put_incoming.ensures.1,
    )

pub returns-in-Ok-None : goal.returns-in-Ok-None
returns-in-Ok-None g c =
    let s = c.args.self.now in
    let name = c.args.name.now in
    let uri = c.args.uri.now in
    let none = no-path cow_slice_items _ uri
    (c.in-Ok-None.ensures ∙ ap path_of c.as_bytes.ensures.value) c.in-Ok-None.field-0-is in (
      false,
      puts-of-none (λ k w f. incoming_named k w name f) (incoming name uri) s uri
          (id_json c.args.id) _ _ c.put_null.result none
          (incoming-tells false s (id_json c.args.id) name uri) c.put_null.ensures,
    )
