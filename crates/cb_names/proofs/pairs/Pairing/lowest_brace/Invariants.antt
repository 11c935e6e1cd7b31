-- The outermost `{` is that of what is left, or else the one that is found.
use Rattle.std.proofs.Common.{◌≡◌, ◌≤◌}
use Rattle.std.specs.Option.{option_or}
use Rattle.cb_names.specs.Pairs.{lowest_brace, opened}
use Rattle.cb_names.proofs.PairingLemmas.{bound, from}
use Rattle.cb_names.proofs.pairs.Pairing.lowest_brace.Given as goal

abbrev pub invariant-brackets : goal.invariant-brackets
invariant-brackets l = record {
  found : option_or (lowest_brace l.items (from l.items l.left)) l.lowest
      ≡ lowest_brace l.items (opened l.items l.at);
  less : bound l.items l.left ≤ l.at;
}

abbrev pub decreases-brackets : goal.decreases-brackets
decreases-brackets l = bound l.items l.left
