use Rattle.std.proofs.Common.{◌≡◌, ◌≤◌, ◌++◌, length}
use Rattle.cb_desk.specs.Search.{lines_with}
use Rattle.cb_desk.proofs.present.places.nth_line.Given as goal

abbrev pub invariant-loop-line : goal.invariant-loop-line
invariant-loop-line l = record {
  left : l.yielded ++ l.line-iterator ≡ lines_with l.fn.finder l.fn.source;
  count : l.passed ≡ length l.yielded;
  short : l.passed ≤ l.n;
}
