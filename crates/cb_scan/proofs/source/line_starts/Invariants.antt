-- The entries made and those of the lines still to come are the table.
use Rattle.std.proofs.Common.{◌≡◌, ◌+◌, ◌++◌, length}
use Rattle.cb_scan.specs.steps.LineStarts.{starts_from, line_starts}
use Rattle.cb_scan.proofs.LineTable.{joined}
use Rattle.cb_scan.proofs.source.line_starts.Given as goal

abbrev pub invariant-loop-line : goal.invariant-loop-line
invariant-loop-line l = record {
  table : l.starts.items ++ starts_from l.at l.line-iterator ≡ line_starts l.fn.text;
  room : l.at + length (joined l.line-iterator) ≡ length l.fn.text;
}
