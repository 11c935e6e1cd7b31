use Rattle.std.proofs.Common.{sym}
use Rattle.cb_wire.proofs.Folds.{fold-text}
use Rattle.cb_wire.proofs.fold.Fold.parts.Goals as goal

pub returns : goal.returns
returns c = sym (fold-text c.args.self.now.first c.args.self.now.last)
