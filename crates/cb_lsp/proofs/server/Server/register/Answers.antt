use Rattle.std.proofs.Common.{refl, subst, sym, ◌∙◌, ap}
use Rattle.cb_wire.specs.Watchers.{watch_request}
use Rattle.cb_lsp.specs.Bodies.{Does}
use Rattle.cb_lsp.specs.Messages.{Serving, registers}
use Rattle.cb_lsp.proofs.Answered.{does-one}
use Rattle.cb_lsp.proofs.server.Server.register.Goals as goal

pub returns-then-self : goal.returns-then-self
returns-then-self g c =
    let s = c.args.self.now in
    subst (λ b. Does (registers s b) s c.args.out.now c.put_watch_request.new.out
    c.put_watch_request.result)
    (sym c.if-self.true ∙ ap (λ (x : Serving). x.watches) c.self.view_is)
    (does-one s s watch_request c.args.out.now c.put_watch_request.new.out
    c.put_watch_request.result refl c.put_watch_request.ensures)
