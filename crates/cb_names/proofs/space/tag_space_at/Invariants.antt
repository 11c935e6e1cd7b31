-- What is left tells what all do.
use Rattle.std.proofs.Common.{◌≡◌}
use Rattle.cb_names.specs.SpaceAt.{tag_space_at}
use Rattle.cb_names.proofs.space.tag_space_at.Given as goal

abbrev pub invariant-tokens : goal.invariant-tokens
invariant-tokens l = tag_space_at l.items l.left ≡ tag_space_at l.items l.index

abbrev pub decreases-tokens : goal.decreases-tokens
decreases-tokens l = l.left
