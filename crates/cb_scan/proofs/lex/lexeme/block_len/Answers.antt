-- What the search for `*/` answers is where the count of bytes ends.
use Rattle.std.proofs.Common.{sym}
use Rattle.cb_scan.proofs.Blocks.{block_len-some, block_len-none}
use Rattle.cb_scan.proofs.lex.lexeme.block_len.Goals as goal

pub returns-in-Some-clause-value : goal.returns-in-Some-clause-value
returns-in-Some-clause-value c = sym (block_len-some c.args.text.now c.in-Some.at c.in-Some.ensures)

pub returns-in-None-clause-value : goal.returns-in-None-clause-value
returns-in-None-clause-value c = sym (block_len-none c.args.text.now c.in-None.ensures)
