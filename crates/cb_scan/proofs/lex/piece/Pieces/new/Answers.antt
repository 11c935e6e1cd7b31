use Rattle.std.proofs.Common.{arith}
use Rattle.cb_scan.proofs.PieceLists.{length-pieces}
use Rattle.cb_scan.proofs.lex.piece.Pieces.new.Goals as goal

pub returns-clause-len : goal.returns-clause-len
returns-clause-len c = omega (arith, length-pieces 0 c.args.text.now)
