use Rattle.std.proofs.Common.{Some, false, true, ◌∙◌, ap, refl}
use Rattle.std.specs.Cow.{cow_slice_items}
use Rattle.json.specs.Value.{value_view}
use Rattle.cb_wire.specs.Uris.{path_of}
use Rattle.cb_lsp.specs.Documents.{gone}
use Rattle.cb_lsp.specs.Params.{text_in}
use Rattle.cb_lsp.proofs.Answered.{by-as, by-same}
use Rattle.cb_lsp.proofs.Notices.{happened-to, happened-unread, path-found}
use Rattle.cb_lsp.proofs.server.Server.take_event.Goals as goal

pub returns-in-Ok-Some : goal.returns-in-Ok-Some
returns-in-Ok-Some g c =
    let found = path-found cow_slice_items _ _ _ c.in-Some-text_in.uri.now _
    (c.in-Ok-Some.ensures ∙ ap path_of c.as_bytes.ensures.value) c.in-Ok-Some.field-0-is
    c.in-Ok-Some.path-is c.as_slice.ensures.value in
    let at = c.take_event_at.ensures in
    let happens = happened-to c.in-Some.kind at.0 at.1 c.args.self.now (value_view c.args.event.now)
    c.in-Some-text_in.uri.now c.as_slice.result.now c.in-Some.ensures
    (c.in-Some-text_in.ensures ∙ ap text_in c.get.ensures) found in
    (false, at.0, at.1, by-same _ _ _ _ _ _ _ happens at.2)

pub returns-in-Err : goal.returns-in-Err
returns-in-Err g c =
    let unread = happened-unread c.in-Some.kind false gone c.args.self.now
    (value_view c.args.event.now) c.as_bytes-in-Err.result.now c.in-Some.ensures
    (ap Some c.as_bytes-in-Err.ensures.value ∙ c.in-Some-text_in.ensures ∙ ap text_in c.get.ensures) in
    (true, false, gone, by-as (g.D.Disk.finds c.args.disk.now) _ c.args.self.now _ _ _ _ _ unread refl c.put_unread.ensures)
