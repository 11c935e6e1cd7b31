use Rattle.std.proofs.Common.{◌≡◌, ◌+◌, drop}
use Rattle.cb_scan.specs.declared.lex.lexeme.Escape.TheVariants.{Plain}
use Rattle.cb_scan.specs.steps.Cut.{literal_len}
use Rattle.cb_scan.proofs.lex.lexeme.literal_len.Given as goal

abbrev pub invariant-loop-i : goal.invariant-loop-i
invariant-loop-i l = l.i + literal_len l.quote l.escape (drop l.i l.text) ≡ literal_len l.quote Plain l.text
