use Rattle.std.proofs.Common.{◌≡◌, ◌≤◌, take}
use Rattle.cb_wire.specs.Positions.{line_feeds}
use Rattle.cb_lsp.proofs.edited.feeds_in.Given as goal

abbrev pub invariant-bytes : goal.invariant-bytes
invariant-bytes l = record {
  counted : l.feeds ≡ line_feeds (take l.byte-index l.block);
  few : l.feeds ≤ l.byte-index;
}
