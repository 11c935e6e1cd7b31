use Rattle.std.proofs.Common.{false, ◌∙◌, ap, refl}
use Rattle.std.specs.Cow.{cow_slice_items}
use Rattle.cb_wire.specs.Messages.{id_json}
use Rattle.cb_wire.specs.Uris.{path_of}
use Rattle.cb_lsp.specs.Answers.{folds_named}
use Rattle.cb_lsp.specs.Questions.{folds}
use Rattle.cb_lsp.proofs.Asked.{puts-of-file, puts-of-none}
use Rattle.cb_lsp.proofs.Folding.{folds-tells}
use Rattle.cb_lsp.proofs.Notices.{no-path, path-found}
use Rattle.cb_lsp.proofs.server.Server.folds_at.Goals as goal

pub returns-in-Ok-Some : goal.returns-in-Ok-Some
returns-in-Ok-Some g c =
    let s = c.args.self.now in
    let uri = c.args.uri.now in
    let m = c.put_folds.ensures.0 in
    let found = path-found cow_slice_items _ _ _ uri _
    (c.in-Ok-Some.ensures ∙ ap path_of c.as_bytes.ensures.value) c.in-Ok-Some.field-0-is
    c.in-Ok-Some.path-is c.as_slice.ensures.value in (
      m,
      puts-of-file (λ k w f. folds_named w f) (folds uri) m s _ _ _ uri c.as_slice.result.now _
          (id_json c.args.id) _ _ c.put_folds.result c.self.view_is refl c.desk.ensures found
          c.name-file.ensures (folds-tells m s (id_json c.args.id) uri) c.put_folds.ensures.1,
    )

pub returns-in-Ok-None : goal.returns-in-Ok-None
returns-in-Ok-None g c =
    let s = c.args.self.now in
    let uri = c.args.uri.now in
    let none = no-path cow_slice_items _ uri
    (c.in-Ok-None.ensures ∙ ap path_of c.as_bytes.ensures.value) c.in-Ok-None.field-0-is in (
      false,
      puts-of-none (λ k w f. folds_named w f) (folds uri) s uri (id_json c.args.id) _ _
          c.put_null.result none (folds-tells false s (id_json c.args.id) uri) c.put_null.ensures,
    )
