-- What is sorted and has the same elements is the list in order.
use Rattle.std.proofs.Common.{rules, sym}
use Rattle.std.proofs.lemmas.Cmp.{nat_list_cmp_total}
use Rattle.std.proofs.lemmas.List.MinMax.{ranks_by}
use Rattle.std.proofs.lemmas.Fn.{always_returns_same}
use Rattle.std.specs.Cmp.Lexicographic.{slice_cmp}
use Rattle.std.specs.Ordering.{is_lt, nat_cmp}
use Rattle.cb_scan.proofs.OrderLemmas.{neighbours, sorted_is}
use Rattle.cb_index.specs.Entries.{sort_key}
use Rattle.cb_index.proofs.EntryLemmas.{sort_exact}
use Rattle.cb_index.specs.Kinds.{keyer_of}
use Rattle.cb_index.proofs.sort.sort_whole.Goals as goal

pub returns : goal.returns
returns c =
    let keyer = keyer_of c.args.kind in
    let key = sort_key keyer c.args.archive.now in
    let before = c.args.entries.now in
    let after = c.sort_unstable_by.new.self in
    let moved = c.sort_unstable_by.ensures in
    let adjacent = moved.sorted (λ e f. is_lt (slice_cmp nat_cmp (key e) (key f)))
    (ranks_by nat_list_cmp_total key)
    (always_returns_same _ _ _ (λ a r q k. (search (rules, k), search (rules, k)))) in
    sym (sorted_is key (sort_exact keyer c.args.archive.now) before after moved.permutation
    (neighbours key after adjacent))
