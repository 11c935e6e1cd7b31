-- What was counted and what is left are all.
use Rattle.std.proofs.Common.{◌≡◌, ◌≤◌, ◌+◌, length, count_by}
use Rattle.cb_scan.specs.steps.Lined.{is_feed}
use Rattle.cb_scan.proofs.lex.lined.feeds_among.Given as goal

abbrev pub invariant-loop-rest : goal.invariant-loop-rest
invariant-loop-rest l = record {
  counted : l.count + count_by is_feed l.rest ≡ count_by is_feed l.bytes;
  few : length l.rest ≤ length l.bytes;
}

abbrev pub decreases-loop-rest : goal.decreases-loop-rest
decreases-loop-rest l = length l.rest
