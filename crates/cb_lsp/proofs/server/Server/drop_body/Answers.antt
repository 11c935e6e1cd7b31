use Rattle.cb_lsp.specs.Messages.{log_of}
use Rattle.cb_lsp.proofs.Dropped.{first-fails, then-lost}
use Rattle.cb_lsp.proofs.server.Server.drop_body.Goals as goal

pub returns-in-Ok : goal.returns-in-Ok
returns-in-Ok g c =
    then-lost c.args.self.now c.lose_all.new.self (log_of c.args.why.now) c.args.out.now
    c.log.new.out c.lose_all.new.out c.lose_all.result c.in-Ok.ensures c.lose_all.ensures

pub returns-in-Err : goal.returns-in-Err
returns-in-Err g c = (
  tt,
  first-fails c.args.self.now (log_of c.args.why.now) c.args.out.now c.log.new.out
      c.in-Err.ensures,
)
