use Rattle.std.proofs.Common.{ap, length, arith}
use Rattle.cb_index.specs.Held.{all_entries}
use Rattle.cb_index.specs.Kinds.{def_kind, lister_of}
use Rattle.cb_index.specs.steps.ShownIn.{shown_in}
use Rattle.cb_index.proofs.DefSearchLemmas.{few_to_come}
use Rattle.cb_index.proofs.tags.DefSearch.len.Goals as goal

pub overflow_add-count : goal.overflow_add-count
overflow_add-count c =
    let s = c.args.self.now in
    let few = few_to_come (def_kind s.by_tag_name) s.archive.now s.asked s.last
    (all_entries (lister_of (def_kind s.by_tag_name)) s.archive.now (shown_in s.shown)) in
    let one = ap length c.in-Some.ensures in
    omega (arith, c.loop-entry.invariant, few, s.few, one)
