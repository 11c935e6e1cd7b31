-- What is left tells what all do.
use Rattle.std.proofs.Common.{◌≡◌}
use Rattle.cb_names.specs.Braces.{follows_keyword}
use Rattle.cb_names.proofs.spaces.follows_keyword.Given as goal

abbrev pub invariant-names : goal.invariant-names
invariant-names l = follows_keyword l.items l.left ≡ follows_keyword l.items l.index

abbrev pub decreases-names : goal.decreases-names
decreases-names l = l.left
