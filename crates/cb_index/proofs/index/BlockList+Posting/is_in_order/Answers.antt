use Rattle.std.proofs.Common.{rules, ◌≡◌, true, [], ◌∷◌, sym, subst}
use Rattle.cb_scan.specs.Order.{goes_first}
use Rattle.cb_scan.proofs.OrderLemmas.{Sorted, all_first}
use Rattle.cb_index.specs.Entries.{sort_key}
use Rattle.cb_index.specs.steps.Runs.{run_items}
use Rattle.cb_index.proofs.EntryLemmas.{sort_exact}
use Rattle.cb_index.proofs.PutLemmas.{none_in_order}
use Rattle.cb_index.proofs.SortedLemmas.{sorted_same}
use Rattle.cb_index.specs.Kinds.{keyer_of}
use Rattle.cb_index.proofs.index.BlockList+Posting.is_in_order.Goals as goal

pub returns-in-None : goal.returns-in-None
returns-in-None c = λ is.
    none_in_order (sort_key (keyer_of c.args.kind) c.args.archive.now) c.args.self.now.items
    (search rules)

-- the last one goes before the next, and so before all after it
pub loop-entry-preserved : goal.loop-entry-preserved
loop-entry-preserved c = λ s.
    let key = sort_key (keyer_of c.args.kind) c.args.archive.now in
    let last = c.loop-entry.last in
    let next = c.in-Some-split_first.entry.now in
    let rest = run_items c.in-Some-split_first.rest in
    let first : goes_first key last next ≡ true = search rules in
    let is : run_items c.loop-entry.left ≡ next ∷ rest = search rules in
    c.loop-entry.invariant (subst (λ l. Sorted key (last ∷ l)) (sym is)
    ((first, all_first key last next rest first s.0), s))

pub returns : goal.returns
returns c = λ is.
    let keyer = keyer_of c.args.kind in
    let a = c.args.archive.now in
    let key = sort_key keyer a in
    let none : run_items c.loop-entry.left ≡ [] = search rules in
    sym (sorted_same key (sort_exact keyer a) c.args.self.now.items
    (c.loop-entry.invariant (subst (λ l. Sorted key (c.loop-entry.last ∷ l)) (sym none) (tt, tt))))
