use Rattle.std.proofs.Common.{subst, sym}
use Rattle.json.specs.Value.{value_view}
use Rattle.cb_lsp.specs.Bodies.{DoesBy}
use Rattle.cb_lsp.specs.FileEvents.{event_if}
use Rattle.cb_lsp.specs.Messages.{happened}
use Rattle.cb_lsp.specs.steps.Works.{one_event}
use Rattle.cb_lsp.proofs.server.Server.take_unless.Goals as goal

pub returns-else-again : goal.returns-else-again
returns-else-again g c =
    let told = c.take_event.ensures in (
      told.0,
      told.1,
      told.2,
      subst (λ b. DoesBy (g.D.Disk.finds c.args.disk.now) (happened (one_event told.0 told.1 told.2)
          c.args.self.now (event_if b (value_view c.args.event.now))) c.take_event.new.self
          c.args.out.now c.take_event.new.out c.take_event.result) (sym c.if-again.false) told.3,
    )
