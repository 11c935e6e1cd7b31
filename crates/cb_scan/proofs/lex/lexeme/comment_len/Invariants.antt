use Rattle.std.proofs.Common.{◌≡◌, ◌+◌, drop}
use Rattle.cb_scan.specs.declared.lex.lexeme.Escape.TheVariants.{Plain}
use Rattle.cb_scan.specs.steps.Cut.{comment_len}
use Rattle.cb_scan.proofs.lex.lexeme.comment_len.Given as goal

abbrev pub invariant-loop-i : goal.invariant-loop-i
invariant-loop-i l = l.i + comment_len l.escape (drop l.i l.text) ≡ comment_len Plain l.text
