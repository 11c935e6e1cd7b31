use Rattle.std.proofs.Common.{◌∙◌, sym}
use Rattle.std.specs.Cmp.Lexicographic.{slice_cmp}
use Rattle.std.specs.Ordering.{nat_cmp, ordering_then}
use Rattle.cb_index.specs.Entries.{numbers}
use Rattle.cb_index.proofs.EntryLemmas.{file_cmp}
use Rattle.cb_index.proofs.OrderingLemmas.{settled}
use Rattle.cb_index.proofs.order.compare_files.Goals as goal

pub returns-in_default : goal.returns-in_default
returns-in_default c =
    settled c.compare_by_words.result (slice_cmp nat_cmp (numbers c.args.a) (numbers c.args.b))
    c.in_default.not-Equal
    (c.compare_by_words.ensures
    ∙ (λ j. slice_cmp nat_cmp (c.name.ensures j) (c.name-2.ensures j)))
    ∙ file_cmp c.args.archive.now c.args.a c.args.b

pub returns-in-Equal : goal.returns-in-Equal
returns-in-Equal c =
    let archive = c.args.archive.now in
    let e = c.args.a in
    let f = c.args.b in
    (λ i. ordering_then ((sym c.in-Equal.is ∙ c.compare_by_words.ensures
    ∙ (λ j. slice_cmp nat_cmp (c.name.ensures j) (c.name-2.ensures j))) i)
    ((c.cmp.ensures
    ∙ (λ j. slice_cmp nat_cmp (c.numbers.ensures j) (c.numbers-in-Equal.ensures j))) i))
    ∙ file_cmp archive e f
