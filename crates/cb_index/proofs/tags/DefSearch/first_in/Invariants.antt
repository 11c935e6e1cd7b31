use Rattle.std.proofs.Common.{◌≡◌, drop, map}
use Rattle.cb_index.specs.Held.{entry_of}
use Rattle.cb_index.specs.Orders.{numbered, prefixed}
use Rattle.cb_index.specs.steps.DefSearch.{first_among}
use Rattle.cb_index.proofs.tags.DefSearch.first_in.Given as goal

abbrev pub invariant-loop-i : goal.invariant-loop-i
invariant-loop-i l =
    first_among l.self l.first
    (map (entry_of l.shown)
    (numbered l.i (map (prefixed l.self.by_tag_name l.text) (drop l.i l.defs))))
    ≡ first_among l.self l.fn.before
    (map (entry_of l.shown) (numbered 0 (map (prefixed l.self.by_tag_name l.text) l.defs)))
