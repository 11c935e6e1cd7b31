use Rattle.std.proofs.Common.{[], ◌∷◌, ◌∙◌, ap, sym, subst, refl}
use Rattle.std.specs.List.{AllByRecursion}
use Rattle.cb_wire.specs.Uris.{name_below}
use Rattle.std.specs.Option.{option_copied}
use Rattle.cb_lsp.specs.Documents.{Oracle}
use Rattle.cb_lsp.specs.Messages.{Serving, read_behind}
use Rattle.cb_lsp.specs.Models.{found_in}
use Rattle.cb_lsp.specs.steps.Values.{seen}
use Rattle.cb_lsp.proofs.Answered.{by-as, by-nothing}
use Rattle.cb_lsp.proofs.Notices.{noticed-bad, noticed-quiet, noticed-told, quiet}
use Rattle.cb_lsp.proofs.server.Server.take_path.Goals as goal

pub returns-then-is_document_name : goal.returns-then-is_document_name
returns-then-is_document_name g c =
    let finds = g.D.Disk.finds c.args.disk.now in
    let told = c.take_notice-told in
    let o : Oracle = record {
      refusals = told.ensures.0;
      found = found_in c.found_behind-found.result ∷ [];
    } in (
      o,
      noticed-told finds c.args.notice o _ c.args.self.now (seen c.args.params) c.args.path.now
          c.name-name.result.now told.new.self (option_copied told.result) c.args.out.now
          c.put_told.new.out c.put_told.result c.self.view_is c.name-name.ensures
          (sym c.is_document_name.ensures ∙ c.if-is_document_name.true) told.ensures.1 c.put_told.ensures
          (subst (λ (s : Serving). AllByRecursion finds (read_behind c.args.notice
          (found_in c.found_behind-found.result) s.work c.args.path.now c.name-name.result.now))
          (sym c.self.view_is) c.found_behind-found.ensures),
    )

pub returns-then-opens_as_c : goal.returns-then-opens_as_c
returns-then-opens_as_c g c =
    let path = c.args.path.now in
    let named = c.name-name.ensures
    ∙ ap (λ (s : Serving). name_below s.client.root.path path) c.self.view_is in
    let noticed = noticed-bad c.args.notice c.args.self.now (seen c.args.params) path
    c.name-name.result.now named (sym c.is_document_name.ensures ∙ c.if-is_document_name.false)
    (sym c.opens_as_c.ensures ∙ c.if-opens_as_c.true) in
    (quiet, by-as (g.D.Disk.finds c.args.disk.now) _ c.args.self.now _ _ _ _ _ noticed refl c.put_bad_name.ensures)

pub returns : goal.returns
returns g c =
    let path = c.args.path.now in
    let named = c.name-name.ensures
    ∙ ap (λ (s : Serving). name_below s.client.root.path path) c.self.view_is in
    let noticed = noticed-quiet c.args.notice c.args.self.now (seen c.args.params) path
    c.name-name.result.now named (sym c.is_document_name.ensures ∙ c.if-is_document_name.false)
    (sym c.opens_as_c.ensures ∙ c.if-opens_as_c.false) in
    (quiet, by-nothing (g.D.Disk.finds c.args.disk.now) _ c.args.self.now _ c.args.out.now noticed refl)
