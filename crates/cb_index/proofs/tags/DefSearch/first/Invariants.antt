use Rattle.std.proofs.Common.{◌≡◌, None, length}
use Rattle.cb_index.specs.Held.{all_entries}
use Rattle.cb_index.specs.Kinds.{def_kind, lister_of}
use Rattle.cb_index.specs.steps.DefSearch.{first_among}
use Rattle.cb_index.specs.steps.ShownIn.{shown_in}
use Rattle.cb_index.proofs.tags.DefSearch.first.Given as goal

abbrev pub invariant-loop-one : goal.invariant-loop-one
invariant-loop-one l =
    first_among l.self l.first
    (all_entries (lister_of (def_kind l.self.by_tag_name)) l.self.archive.now (shown_in l.left))
    ≡ first_among l.self None
    (all_entries (lister_of (def_kind l.self.by_tag_name)) l.self.archive.now
    (shown_in l.self.shown))

abbrev pub decreases-loop-one : goal.decreases-loop-one
decreases-loop-one l = length (shown_in l.left)
