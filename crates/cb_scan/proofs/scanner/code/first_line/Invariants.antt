-- The tokens that are read and those that are still to come are all.
use Rattle.std.proofs.Common.{◌≡◌, ◌+◌, ◌≤◌, ◌++◌, length}
use Rattle.std.specs.List.{AllByRecursion}
use Rattle.cb_scan.specs.CodeTokens.{IsSpanOf, first_line}
use Rattle.cb_scan.specs.declared.source.TheConstants.{MOST_BYTES}
use Rattle.cb_scan.specs.steps.Lined.{Within}
use Rattle.cb_scan.specs.steps.LineTokens.{line_from}
use Rattle.cb_scan.proofs.scanner.code.first_line.Given as goal

abbrev pub invariant-loop-lined : goal.invariant-loop-lined
invariant-loop-lined l = record {
  read : l.tokens.items ++ line_from l.text l.lined-iterator ≡ first_line l.text;
  taken : AllByRecursion (IsSpanOf l.text) l.tokens.items;
  within : AllByRecursion (Within l.text) l.lined-iterator;
  room : length l.tokens.items + length l.lined-iterator ≤ MOST_BYTES;
}
