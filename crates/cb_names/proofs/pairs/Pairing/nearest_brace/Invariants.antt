-- The innermost `{` is that of what is left.
use Rattle.std.proofs.Common.{◌≡◌, ◌≤◌}
use Rattle.cb_names.specs.Pairs.{nearest_brace, opened}
use Rattle.cb_names.proofs.PairingLemmas.{bound, from}
use Rattle.cb_names.proofs.pairs.Pairing.nearest_brace.Given as goal

abbrev pub invariant-brackets : goal.invariant-brackets
invariant-brackets l = record {
  found : nearest_brace l.items (from l.items l.left) ≡ nearest_brace l.items (opened l.items l.at);
  less : bound l.items l.left ≤ l.at;
}

abbrev pub decreases-brackets : goal.decreases-brackets
decreases-brackets l = bound l.items l.left
