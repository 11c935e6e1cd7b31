use Rattle.std.proofs.Common.{Some, ap, refl, subst, sym, ◌∙◌}
use Rattle.cb_lsp.specs.Bodies.{DoesBy}
use Rattle.cb_lsp.specs.Messages.{noticed_if, registers}
use Rattle.cb_lsp.specs.steps.Values.{seen}
use Rattle.cb_lsp.proofs.Answered.{by-none, by-nothing}
use Rattle.cb_lsp.proofs.Notices.{nothing-asked, quiet}
use Rattle.cb_lsp.proofs.server.Server.take.Goals as goal

pub returns-in-Some-Ready : goal.returns-in-Some-Ready
returns-in-Some-Ready g c =
    let finds = g.D.Disk.finds c.args.disk.now in
    let s = c.args.self.now in (
      quiet,
      subst (λ n. DoesBy finds (noticed_if n quiet s (seen c.args.call.params)) s
          c.args.out.now c.register.new.out c.register.result)
          (ap Some (sym c.in-Some-Ready.field-0-is) ∙ c.in-Some-Ready.ensures)
          (by-none finds (registers s s.watches) s c.args.out.now c.register.new.out
          c.register.result (nothing-asked s s.watches) c.register.ensures),
    )

pub returns-in-None : goal.returns-in-None
returns-in-None g c = (
  quiet,
  by-nothing (g.D.Disk.finds c.args.disk.now) _ c.args.self.now _ c.args.out.now
      (ap (λ n. noticed_if n quiet c.args.self.now (seen c.args.call.params)) c.in-None.ensures)
      refl,
)
