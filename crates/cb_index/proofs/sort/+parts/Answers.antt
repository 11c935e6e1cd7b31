use Rattle.std.proofs.Common.{◌∙◌, ◌++◌, sym, ap, map}
use Rattle.std.proofs.lemmas.List.Sorted.{sum_by-IsPermutation}
use Rattle.cb_scan.specs.Order.{in_order}
use Rattle.cb_index.specs.Entries.{sort_key}
use Rattle.cb_index.specs.Kinds.{keyer_of}
use Rattle.cb_index.specs.steps.Quick.{with_prefix}
use Rattle.cb_index.proofs.EntryLemmas.{sort_exact}
use Rattle.cb_index.proofs.InOrderLemmas.{same_order}
use Rattle.cb_index.proofs.SortLemmas.{all_prefixed, parts_order, words_order}
use Rattle.cb_index.proofs.sort.+parts.Goals as goal

pub sort_parts-returns : goal.sort_parts-returns
sort_parts-returns t c =
    let keyer = keyer_of c.args.kind in
    let key = sort_key keyer c.args.archive.now in
    (λ i. (c.sort_parts.ensures ∙ ap (in_order key) c.split_at_mut-front.ensures.front) i
    ++ (c.sort_parts-2.ensures ∙ ap (in_order key) c.split_at_mut-front.ensures.back) i)
    ∙ parts_order keyer c.args.archive.now c.boundary-at.result c.args.entries.now
    c.boundary-at.ensures

pub sort_run-returns-then-deepen : goal.sort_run-returns-then-deepen
sort_run-returns-then-deepen t c =
    let keyer = keyer_of c.args.kind in
    let a = c.args.archive.now in
    let key = sort_key keyer a in
    let prefix = c.first_prefix-prefix.result in
    let front = c.in-Some.front.now in
    c.set_prefix.ensures ∙ ap (map (with_prefix prefix)) (c.sort_parts.ensures
    ∙ same_order key (sort_exact keyer a) c.sort_by_prefix.new.entries c.deepen.new.entries
    (λ f. sum_by-IsPermutation f c.deepen.new.entries c.sort_by_prefix.new.entries
    c.sort_by_prefix.ensures.moved))
    ∙ words_order keyer a front prefix c.deepen.new.entries (c.deepen.ensures.deep c.if-deepen.true)
    ∙ ap (in_order key) (c.deepen.ensures.same prefix
    ∙ all_prefixed prefix c.args.entries.now
    (sym c.have_prefix.ensures ∙ c.if-not-have_prefix.false))

pub sort_run-returns-else-deepen : goal.sort_run-returns-else-deepen
sort_run-returns-else-deepen t c =
    let key = sort_key (keyer_of c.args.kind) c.args.archive.now in
    let prefix = c.first_prefix-prefix.result in
    c.sort_by_files-else-deepen.ensures
    ∙ ap (in_order key) (c.set_prefix-else-deepen.ensures ∙ c.deepen.ensures.same prefix
    ∙ all_prefixed prefix c.args.entries.now
    (sym c.have_prefix.ensures ∙ c.if-not-have_prefix.false))
