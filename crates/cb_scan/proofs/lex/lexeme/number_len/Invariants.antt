use Rattle.std.proofs.Common.{◌≡◌, ◌+◌, drop}
use Rattle.cb_scan.specs.steps.Cut.{number_len}
use Rattle.cb_scan.proofs.lex.lexeme.number_len.Given as goal

abbrev pub invariant-loop-i : goal.invariant-loop-i
invariant-loop-i l = l.i + number_len l.last (drop l.i l.text) ≡ number_len 46 l.text
