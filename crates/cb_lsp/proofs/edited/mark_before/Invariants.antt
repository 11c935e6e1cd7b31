use Rattle.std.proofs.Common.{◌-◌, length}
use Rattle.cb_lsp.specs.steps.LineMarks.{IsBefore, IsLineMark}
use Rattle.cb_lsp.proofs.edited.mark_before.Given as goal

abbrev pub invariant-back : goal.invariant-back
invariant-back l = IsLineMark l.text l.at.place l.at.feeds

abbrev pub decreases-back : goal.decreases-back
decreases-back l = l.at.place

abbrev pub invariant-on : goal.invariant-on
invariant-on l = record {
  mark : IsLineMark l.text l.at.place l.at.feeds;
  before : IsBefore l.at.place l.at.feeds l.line;
}

abbrev pub decreases-on : goal.decreases-on
decreases-on l = length l.text - l.at.place
