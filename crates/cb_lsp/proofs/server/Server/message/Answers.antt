use Rattle.std.proofs.Common.{sym, subst, refl, ap}
use Rattle.cb_lsp.proofs.Answered.{by-nothing, on-ok}
use Rattle.cb_lsp.proofs.Notices.{quiet}
use Rattle.cb_lsp.specs.Messages.{does}
use Rattle.cb_lsp.specs.Models.{message_in}
use Rattle.cb_lsp.specs.Bodies.{DoesBy}
use Rattle.cb_lsp.proofs.server.Server.message.Goals as goal

pub returns-in-NotRequest : goal.returns-in-NotRequest
unfolding does
returns-in-NotRequest g c = (
  quiet,
  subst (λ m. DoesBy (g.D.Disk.finds c.args.disk.now) (does quiet c.args.self.now (message_in m))
      c.args.self.now c.args.out.now c.log.new.out c.log.result) (sym c.in-NotRequest.is)
      ((on-ok c.log.result refl, c.log.ensures), on-ok c.log.result tt),
)

pub returns-in-Notification : goal.returns-in-Notification
unfolding does
returns-in-Notification g c = (
  c.notice.ensures.0,
  subst (λ m. DoesBy (g.D.Disk.finds c.args.disk.now) (does c.notice.ensures.0 c.args.self.now (message_in m))
      c.notice.new.self c.args.out.now c.notice.new.out c.notice.result)
      (sym c.in-Notification.is) c.notice.ensures.1,
)

pub returns-in-Request : goal.returns-in-Request
unfolding does
returns-in-Request g c = (
  c.request.ensures.0,
  subst (λ m. DoesBy (g.D.Disk.finds c.args.disk.now) (does c.request.ensures.0 c.args.self.now (message_in m))
      c.request.new.self c.args.out.now c.request.new.out c.request.result)
      (sym c.in-Request.is) c.request.ensures.1,
)

pub returns-in-Reply : goal.returns-in-Reply
unfolding does
returns-in-Reply g c =
    let s = c.args.self.now in (
      quiet,
      by-nothing (g.D.Disk.finds c.args.disk.now) (does quiet s (message_in c.args.message)) s s c.args.out.now
          (ap (λ m. does quiet s (message_in m)) (sym c.in-Reply.is)) refl,
    )
