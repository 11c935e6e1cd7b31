-- What is left decides from the state reached.
use Rattle.std.proofs.Common.{◌≡◌, drop}
use Rattle.cb_scan.specs.declared.lex.lexeme.Escape.TheVariants.{Plain}
use Rattle.cb_scan.specs.steps.Quote.{closes_from}
use Rattle.cb_scan.proofs.rules.header.closes.Given as goal

abbrev pub invariant-loop-i : goal.invariant-loop-i
invariant-loop-i l = closes_from l.escape (drop l.i l.bytes) ≡ closes_from Plain l.bytes
