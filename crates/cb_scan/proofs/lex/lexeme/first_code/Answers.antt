use Rattle.cb_scan.proofs.FirstBytes.{code_is}
use Rattle.cb_scan.proofs.lex.lexeme.first_code.Goals as goal

pub returns : goal.returns
returns c = code_is c.args.byte c.ranges.byte.fits
