use Rattle.std.proofs.Common.{◌≡◌, ◌≤◌, ◌+◌, ◌-◌, length}
use Rattle.cb_lsp.specs.declared.completion.TheConstants.{MOST_COMPLETIONS}
use Rattle.cb_lsp.specs.steps.Completions.{completions_left}
use Rattle.cb_lsp.proofs.completion.Completions.are_more.Given as goal

abbrev pub invariant-names : goal.invariant-names
invariant-names l = record {
  few : l.count ≤ MOST_COMPLETIONS;
  all : length (completions_left l.self) ≡ l.count + length (completions_left l.left);
}

abbrev pub decreases-names : goal.decreases-names
decreases-names l = MOST_COMPLETIONS - l.count
