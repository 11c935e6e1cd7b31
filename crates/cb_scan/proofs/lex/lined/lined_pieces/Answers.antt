use Rattle.std.proofs.Common.{arith, refl}
use Rattle.cb_scan.proofs.LinedPieces.{length-lined, lined-within}
use Rattle.cb_scan.proofs.lex.lined.lined_pieces.Goals as goal

pub invariant_of-result : goal.invariant_of-result
invariant_of-result c = (c.requires, omega arith, refl)

pub returns-clause-within : goal.returns-clause-within
returns-clause-within c = lined-within c.args.text.now

pub returns-clause-len : goal.returns-clause-len
returns-clause-len c = omega (arith, length-lined c.args.text.now)
