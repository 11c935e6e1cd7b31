use Rattle.std.proofs.Common.{◌∙◌, ap, sym, refl}
use Rattle.cb_wire.specs.Messages.{id_json}
use Rattle.cb_lsp.specs.declared.server.Stage.TheVariants.{Down}
use Rattle.cb_lsp.specs.Messages.{Serving}
use Rattle.cb_lsp.specs.steps.Values.{seen}
use Rattle.cb_lsp.proofs.Answered.{by-as, by-same}
use Rattle.cb_lsp.proofs.Notices.{quiet}
use Rattle.cb_lsp.proofs.Requests.{running-again, running-asked, running-down, running-unasked}
use Rattle.cb_lsp.proofs.server.Server.run.Goals as goal

pub returns-then-eq : goal.returns-then-eq
returns-then-eq g c =
    let is = running-again quiet c.args.self.now (id_json c.args.id) c.args.call.method.now
    (seen c.args.call.params) (sym c.eq.ensures ∙ c.if-eq.true) in
    (quiet, by-as (g.D.Disk.finds c.args.disk.now) _ c.args.self.now _ _ _ _ _ is refl c.put_failure.ensures)

pub returns-then-eq-2 : goal.returns-then-eq-2
returns-then-eq-2 g c =
    let is = running-down quiet c.args.self.now (id_json c.args.id) c.args.call.method.now
    (seen c.args.call.params) (sym c.eq.ensures ∙ c.if-eq.false)
    (sym c.eq-2.ensures ∙ c.if-eq-2.true) in (
      quiet,
      by-as (g.D.Disk.finds c.args.disk.now) _ _ _ _ _ _ _ is
          (ap (λ (s : Serving). record s { stage = Down }) c.self.view_is) c.put_null.ensures,
    )

pub returns-in-Ok : goal.returns-in-Ok
returns-in-Ok g c =
    let is = running-asked c.answer_anew.ensures.0 c.args.self.now (id_json c.args.id)
    c.args.call.method.now (seen c.args.call.params) _ (sym c.eq.ensures ∙ c.if-eq.false)
    (sym c.eq-2.ensures ∙ c.if-eq-2.false) c.in-Ok.ensures in (
      c.answer_anew.ensures.0,
      by-same (g.D.Disk.finds c.args.disk.now) _ _ _ _ _ _ is c.answer_anew.ensures.1,
    )

pub returns-in-Err : goal.returns-in-Err
returns-in-Err g c =
    let is = running-unasked quiet c.args.self.now (id_json c.args.id) c.args.call.method.now
    (seen c.args.call.params) _ (sym c.eq.ensures ∙ c.if-eq.false)
    (sym c.eq-2.ensures ∙ c.if-eq-2.false) c.in-Err.ensures in
    (quiet, by-as (g.D.Disk.finds c.args.disk.now) _ c.args.self.now _ _ _ _ _ is refl c.put_unasked.ensures)
