use Rattle.std.proofs.Common.{◌≤◌, ◌-◌, length, vec_capacity}
use Rattle.cb_tags.specs.Readers.{HasRead}
use Rattle.cb_wire.specs.steps.ReadHeads.{EndsKnown}
use Rattle.cb_wire.proofs.frame.read_body.Given as goal

abbrev pub invariant-pieces : goal.invariant-pieces
invariant-pieces g l = record {
  taken : HasRead l.fn.feed l.feed l.body.items;
  within : length l.body.items ≤ l.count;
  ends : EndsKnown l.fn.feed → EndsKnown l.feed;
  room : l.count ≤ vec_capacity l.body;
  grown : vec_capacity l.fn.body ≤ vec_capacity l.body;
}

abbrev pub decreases-pieces : goal.decreases-pieces
decreases-pieces g l = l.count - length l.body.items
