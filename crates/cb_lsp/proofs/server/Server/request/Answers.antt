use Rattle.std.proofs.Common.{◌∙◌, ap, sym, refl}
use Rattle.cb_wire.specs.Messages.{id_json}
use Rattle.cb_lsp.specs.Messages.{Serving}
use Rattle.cb_lsp.specs.steps.Values.{seen}
use Rattle.cb_lsp.specs.steps.Works.{only}
use Rattle.cb_lsp.proofs.Answered.{by-as, by-none, by-same}
use Rattle.cb_lsp.proofs.Notices.{quiet}
use Rattle.cb_lsp.proofs.Requests.{nothing-begun, requested-early, requested-first}
use Rattle.cb_lsp.proofs.Requests.{requested-late}
use Rattle.cb_lsp.proofs.server.Server.request.Goals as goal

pub returns-then-eq : goal.returns-then-eq
returns-then-eq g c =
    let begun = c.initialize.ensures in
    let is = requested-first c.args.self.now.stage begun.0 c.args.self.now (id_json c.args.id)
    c.args.call.method.now (seen c.args.call.params)
    (sym (ap (λ (s : Serving). s.stage) c.self.view_is) ∙ c.in-Fresh.is)
    (sym c.eq.ensures ∙ c.if-eq.true) in (
      only begun.0,
      by-same (g.D.Disk.finds c.args.disk.now) _ _ _ _ _ _ is
          (by-none (g.D.Disk.finds c.args.disk.now) _ _ _ _ _
          (nothing-begun begun.0 c.args.self.now (id_json c.args.id) (seen c.args.call.params)) begun.1),
    )

pub returns-else-eq : goal.returns-else-eq
returns-else-eq g c =
    let is = requested-early c.args.self.now.stage quiet c.args.self.now (id_json c.args.id)
    c.args.call.method.now (seen c.args.call.params)
    (sym (ap (λ (s : Serving). s.stage) c.self.view_is) ∙ c.in-Fresh.is)
    (sym c.eq.ensures ∙ c.if-eq.false) in
    (quiet, by-as (g.D.Disk.finds c.args.disk.now) _ c.args.self.now _ _ _ _ _ is refl c.put_failure.ensures)

pub returns-in-Down : goal.returns-in-Down
returns-in-Down g c =
    let is = requested-late c.args.self.now.stage quiet c.args.self.now (id_json c.args.id)
    c.args.call.method.now (seen c.args.call.params)
    (sym (ap (λ (s : Serving). s.stage) c.self.view_is) ∙ c.in-Down.is) in
    (quiet, by-as (g.D.Disk.finds c.args.disk.now) _ c.args.self.now _ _ _ _ _ is refl c.put_failure-in-Down.ensures)
