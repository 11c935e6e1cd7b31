use Rattle.cb_lsp.proofs.UsesReached.{reached-is}
use Rattle.cb_lsp.proofs.reach.Reached.new.Goals as goal

pub returns : goal.returns
returns c =
    reached-is c.args.rows c.args.from.now c.args.uses c.has_private-own.result
    c.has_private-own.ensures c.requires.rows c.requires.uses
