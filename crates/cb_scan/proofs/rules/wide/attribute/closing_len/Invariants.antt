-- The parenthesis ends where it ends for what is left.
use Rattle.std.proofs.Common.{◌≡◌, ◌+◌, ◌≤◌}
use Rattle.std.specs.Prelude.{drop}
use Rattle.cb_scan.specs.rules.wide.Attributes.{closing_len}
use Rattle.cb_scan.proofs.rules.wide.attribute.closing_len.Given as goal

abbrev pub invariant-loop-i : goal.invariant-loop-i
invariant-loop-i l = record {
  few : l.more ≤ l.i;
  rest : l.i + closing_len l.more (drop l.i l.tokens) ≡ closing_len 0 l.tokens;
}
