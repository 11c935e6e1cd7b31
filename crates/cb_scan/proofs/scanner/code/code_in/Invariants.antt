-- The tokens that are read and those that are still to come are all.
use Rattle.std.proofs.Common.{◌≡◌, ◌+◌, ◌≤◌, ◌++◌, length}
use Rattle.std.specs.List.{AllByRecursion}
use Rattle.cb_scan.specs.CodeTokens.{IsTokenOf, code_of}
use Rattle.cb_scan.specs.declared.source.TheConstants.{MOST_BYTES}
use Rattle.cb_scan.specs.steps.Directives.{code_out, nothing, walk}
use Rattle.cb_scan.specs.steps.Lined.{Within}
use Rattle.cb_scan.specs.steps.wide.Tokens.{tokens_from}
use Rattle.cb_scan.proofs.scanner.code.code_in.Given as goal

abbrev pub invariant-loop-lined : goal.invariant-loop-lined
invariant-loop-lined l = record {
  read : l.tokens.items
      ++ tokens_from l.text l.before (walk code_out nothing l.text l.line l.lined-iterator)
      ≡ code_of l.text;
  taken : AllByRecursion (IsTokenOf l.text) l.tokens.items;
  within : AllByRecursion (Within l.text) l.lined-iterator;
  room : length l.tokens.items + length l.lined-iterator ≤ MOST_BYTES;
}
