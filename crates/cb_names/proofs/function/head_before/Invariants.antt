-- The head begins where it begins for what is left.
use Rattle.std.proofs.Common.{◌≡◌, ◌≤◌}
use Rattle.cb_names.specs.Functions.{head_before}
use Rattle.cb_names.proofs.function.head_before.Given as goal

abbrev pub invariant-tokens : goal.invariant-tokens
invariant-tokens l = record {
  same : head_before l.items l.head ≡ head_before l.items l.at;
  less : l.head ≤ l.at;
}

abbrev pub decreases-tokens : goal.decreases-tokens
decreases-tokens l = l.head
