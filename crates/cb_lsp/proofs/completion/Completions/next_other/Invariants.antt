use Rattle.std.proofs.Common.{◌≡◌, length}
use Rattle.cb_lsp.specs.steps.Completions.{names_left, others_left}
use Rattle.cb_lsp.proofs.completion.Completions.next_other.Given as goal

abbrev pub invariant-names : goal.invariant-names
invariant-names l = record {
  others : others_left l.self ≡ others_left l.fn.self;
  own : l.self.own ≡ l.fn.self.own;
}

abbrev pub decreases-names : goal.decreases-names
decreases-names l = length (names_left l.self.names)
