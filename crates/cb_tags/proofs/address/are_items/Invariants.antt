use Rattle.std.proofs.Common.{◌≡◌, drop, false}
use Rattle.cb_tags.specs.steps.Items.{are_items}
use Rattle.cb_tags.proofs.address.are_items.Given as goal

abbrev pub invariant-loop-byte : goal.invariant-loop-byte
invariant-loop-byte l = are_items l.escaping (drop l.byte-index l.bytes) ≡ are_items false l.bytes
