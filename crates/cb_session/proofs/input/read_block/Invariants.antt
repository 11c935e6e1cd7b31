use Rattle.std.proofs.Common.{◌≤◌, ◌-◌, length, vec_capacity}
use Rattle.cb_tags.specs.Readers.{HasRead, HoldsOut}
use Rattle.cb_session.proofs.input.read_block.Given as goal

abbrev pub invariant-pieces : goal.invariant-pieces
invariant-pieces g l = record {
  taken : HasRead l.fn.feed l.feed l.block.items;
  within : length l.block.items ≤ l.count;
  fine : HoldsOut l.fn.feed l.feed;
  room : l.count ≤ vec_capacity l.block;
}

abbrev pub decreases-pieces : goal.decreases-pieces
decreases-pieces g l = l.count - length l.block.items
