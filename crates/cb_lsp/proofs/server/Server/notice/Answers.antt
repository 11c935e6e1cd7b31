use Rattle.std.proofs.Common.{ap, refl, sym, ◌∙◌}
use Rattle.cb_lsp.specs.Messages.{Serving, noticed_by}
use Rattle.cb_lsp.specs.steps.Values.{seen}
use Rattle.cb_lsp.proofs.Answered.{by-nothing}
use Rattle.cb_lsp.proofs.Notices.{quiet}
use Rattle.cb_lsp.proofs.server.Server.notice.Goals as goal

pub returns-in-Fresh : goal.returns-in-Fresh
returns-in-Fresh g c = (
  quiet,
  by-nothing (g.D.Disk.finds c.args.disk.now) _ c.args.self.now _ c.args.out.now
      (ap (λ s. noticed_by s quiet c.args.self.now c.args.call.method.now (seen c.args.call.params))
      (sym c.in-Fresh.is ∙ ap (λ (s : Serving). s.stage) c.self.view_is)) refl,
)

pub returns-in-Down : goal.returns-in-Down
returns-in-Down g c = (
  quiet,
  by-nothing (g.D.Disk.finds c.args.disk.now) _ c.args.self.now _ c.args.out.now
      (ap (λ s. noticed_by s quiet c.args.self.now c.args.call.method.now (seen c.args.call.params))
      (sym c.in-Down.is ∙ ap (λ (s : Serving). s.stage) c.self.view_is)) refl,
)
