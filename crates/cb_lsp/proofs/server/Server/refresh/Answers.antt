use Rattle.std.proofs.Common.{◌≡◌, ◌∙◌, ap, false, subst, sym, true}
use Rattle.std.specs.Option.{option_copied}
use Rattle.cb_desk.specs.World.{World}
use Rattle.cb_wire.specs.Uris.{path_below}
use Rattle.cb_lsp.specs.Documents.{gone, is_open}
use Rattle.cb_lsp.specs.Messages.{Serving}
use Rattle.cb_lsp.specs.Models.{found_in}
use Rattle.cb_lsp.proofs.Notices.{looked-so}
use Rattle.cb_lsp.proofs.Refreshed.{refreshed-told, refreshed-unread}
use Rattle.cb_lsp.proofs.server.Server.refresh.Goals as goal

pub returns-in-Err : goal.returns-in-Err
returns-in-Err g c =
    let s = c.args.self.now in
    let name = c.args.name.now in (
      true,
      false,
      gone,
      refreshed-unread (g.D.Disk.finds c.args.disk.now) s name c.args.out.now c.put_told.new.out
          c.put_told.result
          (subst (λ ds. is_open ds name ≡ false)
          (c.documents.ensures ∙ ap (λ (x : Serving). x.work.documents) c.self.view_is)
          (sym c.is_open.ensures ∙ c.if-is_open.false)) c.put_told.ensures,
    )

pub returns : goal.returns
returns g c =
    let finds = g.D.Disk.finds c.args.disk.now in
    let told = c.give_anew-told in
    let name = c.args.name.now in
    let found = found_in c.read-found.result in (
      false,
      told.ensures.0,
      found,
      refreshed-told finds told.ensures.0 found _ c.args.self.now name told.new.self
          (option_copied told.result) c.args.out.now c.put_told-2.new.out c.put_told-2.result
          c.self.view_is
          (subst (λ ds. is_open ds name ≡ false) c.documents.ensures
          (sym c.is_open.ensures ∙ c.if-is_open.false)) told.ensures.1 c.put_told-2.ensures
          (looked-so finds 0 c.self.inside.work.world _
          (path_below c.self.inside.root.path name) _ _ found
          (c.as_slice.ensures.value ∙ c.in-Ok.ensures) c.most_read.ensures.value
          (ap (λ (w : World). w.bounds) c.desk.ensures) c.read-found.ensures),
    )
