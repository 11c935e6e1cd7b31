use Rattle.std.proofs.Common.{◌≡◌, ◌∙◌, ap, refl, subst, sym, true}
use Rattle.cb_desk.specs.World.{World}
use Rattle.std.specs.Option.{option_copied}
use Rattle.cb_lsp.specs.Documents.{is_renewed, looked_by}
use Rattle.cb_lsp.specs.Models.{found_in}
use Rattle.cb_lsp.proofs.Notices.{looked-so, renewed-told}
use Rattle.cb_lsp.proofs.server.Server.renew.Goals as goal

pub returns : goal.returns
returns g c =
    let finds = g.D.Disk.finds c.args.disk.now in
    let told = c.give_found-told in
    let name = c.name-name.result.now in
    let renews = subst (λ b. is_renewed c.self.inside.work b name ≡ true) c.may_enter.ensures
    (sym c.renews.ensures ∙ c.if-not-renews.false) in (
      told.ensures.0,
      found_in c.read-found.result,
      renewed-told finds told.ensures.0 (found_in c.read-found.result) _ c.args.self.now
          c.args.path.now name told.new.self (option_copied told.result) c.args.out.now
          c.put_told.new.out c.put_told.result c.self.view_is c.name-name.ensures renews
          told.ensures.1 c.put_told.ensures
          (subst (λ n. finds (looked_by n c.self.inside.work.world c.args.path.now
          (found_in c.read-found.result))) c.only_name-only.ensures
          (looked-so finds c.only_name-only.result c.self.inside.work.world _ c.args.path.now _ _
          (found_in c.read-found.result) refl c.most_read.ensures.value
          (ap (λ (w : World). w.bounds) c.desk.ensures) c.read-found.ensures)),
    )
