use Rattle.std.proofs.Common.{◌≡◌, length}
use Rattle.cb_index.specs.steps.Chains.{chain_left}
use Rattle.cb_index.specs.steps.Given.{given_left}
use Rattle.cb_index.proofs.repeats.take_given.Given as goal

abbrev pub decreases-loop-item : goal.decreases-loop-item
decreases-loop-item l = length (chain_left l.items)

abbrev pub invariant-loop-item : goal.invariant-loop-item
invariant-loop-item l = record {
  left : given_left l.all l.items ≡ given_left l.all l.initial.items;
  sort : l.items.sort ≡ l.initial.items.sort;
  version : l.items.version.now ≡ l.initial.items.version.now;
}
