-- What is sorted and has the same elements is the list in order.
use Rattle.std.proofs.Common.{rules, ◌∙◌, sym}
use Rattle.std.proofs.lemmas.Cmp.{nat_list_cmp_total}
use Rattle.std.proofs.lemmas.Fn.{always_returns_same}
use Rattle.std.proofs.lemmas.List.MinMax.{ranks_by}
use Rattle.std.specs.Cmp.Lexicographic.{slice_cmp}
use Rattle.std.specs.Ordering.{is_lt, nat_cmp}
use Rattle.cb_scan.proofs.OrderLemmas.{neighbours, sorted_is}
use Rattle.cb_index.specs.Files.{shown_key}
use Rattle.cb_index.proofs.ListedLemmas.{order_by_name, shown_exact}
use Rattle.cb_index.proofs.shown.sort_shown.Goals as goal

pub returns : goal.returns
returns c =
    let key = shown_key c.args.archive.now in
    let before = c.args.shown.now in
    let after = c.sort_unstable_by.new.self in
    let moved = c.sort_unstable_by.ensures in
    let adjacent = moved.sorted (λ s t. is_lt (slice_cmp nat_cmp (key s) (key t)))
    (ranks_by nat_list_cmp_total key)
    (always_returns_same _ _ _ (λ a r q k. (search (rules, k), search (rules, k)))) in
    sym (sorted_is key (shown_exact c.args.archive.now) before after moved.permutation
    (neighbours key after adjacent))
    ∙ order_by_name c.args.archive.now before c.requires
