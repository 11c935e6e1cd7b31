use Rattle.std.proofs.Common.{◌≡◌, ◌+◌, false, drop}
use Rattle.cb_scan.specs.steps.Cut.{blank_len}
use Rattle.cb_scan.proofs.lex.lexeme.blanks_len.Given as goal

abbrev pub invariant-loop-i : goal.invariant-loop-i
invariant-loop-i l = l.i + blank_len l.joining (drop l.i l.text) ≡ blank_len false l.text
