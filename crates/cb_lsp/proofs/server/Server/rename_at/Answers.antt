use Rattle.std.proofs.Common.{true, false, ◌∙◌, ap}
use Rattle.std.specs.Cow.{cow_slice_items}
use Rattle.cb_wire.specs.Messages.{id_json}
use Rattle.cb_wire.specs.Uris.{name_below, path_of}
use Rattle.cb_lsp.specs.Messages.{Serving}
use Rattle.cb_lsp.specs.steps.Works.{only}
use Rattle.cb_lsp.proofs.Asked.{puts-renamed, puts-renamed-nowhere}
use Rattle.cb_lsp.proofs.Notices.{behind, no-path, path-found}
use Rattle.cb_lsp.proofs.server.Server.rename_at.Goals as goal

pub returns-in-Ok-Some : goal.returns-in-Ok-Some
returns-in-Ok-Some g c =
    let path = c.as_slice.result.now in
    let found = path-found cow_slice_items _ _ _ c.args.uri.now _
    (c.in-Ok-Some.ensures ∙ ap path_of c.as_bytes.ensures.value) c.in-Ok-Some.field-0-is
    c.in-Ok-Some.path-is c.as_slice.ensures.value in
    let named = c.name-name.ensures
    ∙ ap (λ (s : Serving). name_below s.client.root.path path) c.self.view_is in
    let renamed = c.rename_in.ensures in (
      behind renamed.0 renamed.1,
      puts-renamed (g.D.Disk.finds c.args.disk.now) renamed.0 renamed.1 c.args.self.now
          c.args.uri.now path c.name-name.result.now c.args.position
          c.as_bytes-in-Ok-Some.result.now c.args.new_name.now (id_json c.args.id) _ _
          c.rename_in.result found named c.as_bytes-in-Ok-Some.ensures.value renamed.2,
    )

pub returns-in-Ok-None : goal.returns-in-Ok-None
returns-in-Ok-None g c =
    let none = no-path cow_slice_items _ c.args.uri.now
    (c.in-Ok-None.ensures ∙ ap path_of c.as_bytes.ensures.value) c.in-Ok-None.field-0-is in (
      only false,
      puts-renamed-nowhere (g.D.Disk.finds c.args.disk.now) c.args.self.now c.args.uri.now c.args.position c.args.new_name.now
          (id_json c.args.id) _ _ c.put_failure.result none c.put_failure.ensures,
    )

pub returns-in-Err : goal.returns-in-Err
returns-in-Err g c = (only true, (c.put_refusal.ensures, tt))
