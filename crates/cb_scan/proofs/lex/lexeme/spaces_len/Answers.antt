-- Where the run ends early, a byte follows that ends the blank.
use Rattle.std.proofs.Common.{sym}
use Rattle.cb_scan.proofs.BlankRun.{spaces_are}
use Rattle.cb_scan.proofs.lex.lexeme.spaces_len.Goals as goal

pub returns-then-ends_blank-clause-value : goal.returns-then-ends_blank-clause-value
returns-then-ends_blank-clause-value c =
    spaces_are c.args.text.now c.space_run-run.result c.requires c.space_run-run.ensures
    c.if-run-lt-LANES.true (sym c.if-ends_blank.ensures)
