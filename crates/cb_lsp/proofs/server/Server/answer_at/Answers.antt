use Rattle.std.proofs.Common.{false, ◌∙◌, ap, refl}
use Rattle.std.specs.Cow.{cow_slice_items}
use Rattle.cb_wire.specs.Messages.{id_json}
use Rattle.cb_wire.specs.Uris.{name_below, path_of}
use Rattle.cb_lsp.specs.Answers.{answer_named}
use Rattle.cb_lsp.specs.Messages.{Serving}
use Rattle.cb_lsp.specs.Questions.{in_file}
use Rattle.cb_lsp.proofs.Asked.{answer-tells, puts-of-file, puts-of-none}
use Rattle.cb_lsp.proofs.Notices.{no-path, path-found}
use Rattle.cb_lsp.proofs.server.Server.answer_at.Goals as goal

pub returns-in-Ok-Some : goal.returns-in-Ok-Some
returns-in-Ok-Some g c =
    let s = c.args.self.now in
    let uri = c.args.uri.now in
    let path = c.as_slice.result.now in
    let question = c.args.question in
    let m = c.answer_in.ensures.0 in
    let found = path-found cow_slice_items _ _ _ uri _
    (c.in-Ok-Some.ensures ∙ ap path_of c.as_bytes.ensures.value) c.in-Ok-Some.field-0-is
    c.in-Ok-Some.path-is c.as_slice.ensures.value in
    let named = c.name-name.ensures
    ∙ ap (λ (x : Serving). name_below x.client.root.path path) c.self.view_is in (
      m,
      puts-of-file (λ k w f. answer_named k w question f) (in_file uri question) m s s s.client
          s.work.world uri path c.name-name.result.now (id_json c.args.id) _ _ c.answer_in.result
          refl refl refl found named (answer-tells m s (id_json c.args.id) uri question)
          c.answer_in.ensures.1,
    )

pub returns-in-Ok-None : goal.returns-in-Ok-None
returns-in-Ok-None g c =
    let s = c.args.self.now in
    let uri = c.args.uri.now in
    let question = c.args.question in
    let none = no-path cow_slice_items _ uri
    (c.in-Ok-None.ensures ∙ ap path_of c.as_bytes.ensures.value) c.in-Ok-None.field-0-is in (
      false,
      puts-of-none (λ k w f. answer_named k w question f) (in_file uri question) s uri
          (id_json c.args.id) _ _ c.put_null.result none
          (answer-tells false s (id_json c.args.id) uri question) c.put_null.ensures,
    )
