use Rattle.std.proofs.Common.{Some, false, true, ◌∙◌, ap, refl}
use Rattle.std.specs.Cow.{cow_slice_items}
use Rattle.cb_wire.specs.Uris.{path_of}
use Rattle.cb_lsp.specs.steps.Values.{seen}
use Rattle.cb_lsp.proofs.Answered.{by-nothing, by-same, on-ok}
use Rattle.cb_lsp.proofs.Notices.{behind, no-path, noticed-none, noticed-nowhere, noticed-path}
use Rattle.cb_lsp.proofs.Notices.{noticed-unread}
use Rattle.cb_lsp.proofs.Notices.{path-found, quiet}
use Rattle.cb_lsp.proofs.server.Server.take_document.Goals as goal

pub returns-in-Ok-Some : goal.returns-in-Ok-Some
returns-in-Ok-Some g c =
    let found = path-found cow_slice_items _ _ _ c.in-Some.uri.now _
    (c.in-Ok-Some.ensures ∙ ap path_of c.as_bytes.ensures.value) c.in-Ok-Some.field-0-is
    c.in-Ok-Some.path-is c.as_slice.ensures.value in
    let noticed = noticed-path c.args.notice c.take_path.ensures.0 c.args.self.now
    (seen c.args.params) c.in-Some.uri.now c.as_slice.result.now c.in-Some.ensures found in
    (behind false c.take_path.ensures.0, by-same _ _ _ _ _ _ _ noticed c.take_path.ensures.1)

pub returns-in-Ok-None : goal.returns-in-Ok-None
returns-in-Ok-None g c =
    let none = no-path cow_slice_items _ c.in-Some.uri.now
    (c.in-Ok-None.ensures ∙ ap path_of c.as_bytes.ensures.value) c.in-Ok-None.field-0-is in
    let noticed = noticed-nowhere c.args.notice c.args.self.now (seen c.args.params)
    c.in-Some.uri.now c.in-Some.ensures none in
    (behind false quiet, by-nothing (g.D.Disk.finds c.args.disk.now) _ c.args.self.now _ c.args.out.now noticed refl)

pub returns-in-Err : goal.returns-in-Err
returns-in-Err g c =
    let unread = noticed-unread c.args.notice c.args.self.now (seen c.args.params)
    c.as_bytes-in-Err.result.now (ap Some c.as_bytes-in-Err.ensures.value ∙ c.in-Some.ensures) in (
      behind true quiet,
      by-same (g.D.Disk.finds c.args.disk.now) _ _ _ _ _ _ unread
          (c.drop_notice.ensures, on-ok _ tt),
    )

pub returns-in_default : goal.returns-in_default
returns-in_default g c =
    let none = noticed-none c.args.notice c.args.self.now (seen c.args.params) c.in_default.ensures in
    (quiet, by-nothing (g.D.Disk.finds c.args.disk.now) _ c.args.self.now _ c.args.out.now none refl)
