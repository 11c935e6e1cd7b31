use Rattle.std.proofs.Common.{rules, ◌≡◌, subst}
use Rattle.std.proofs.lemmas.Fn.{always_returns_same}
use Rattle.std.specs.Cmp.Lexicographic.{slice_cmp}
use Rattle.std.specs.List.{IsAllAdjacentAnswer}
use Rattle.std.specs.Ordering.{is_lt, nat_cmp}
use Rattle.cb_index.specs.Archived.{name_of}
use Rattle.cb_index.specs.declared.entry.Shown.{Shown}
use Rattle.cb_index.proofs.ListedLemmas.{ascending_answer, ascending_apart, ascending_if}
use Rattle.cb_index.proofs.shown.ascend.Goals as goal

-- each name is below the next, so no two are one
pub returns-clause-apart : goal.returns-clause-apart
returns-clause-apart c = λ is.
    let a = c.args.archive.now in
    ascending_apart a c.args.news.now (ascending_if a c.args.news.now
    (subst (IsAllAdjacentAnswer (λ (s t : Shown) b.
    b ≡ is_lt (slice_cmp nat_cmp (name_of a s.name) (name_of a t.name))) c.args.news.now) is
    (c.is_sorted_by.ensures.cases
    (λ s t. is_lt (slice_cmp nat_cmp (name_of a s.name) (name_of a t.name)))
    (always_returns_same _ _ _ (λ x r q k. (search (rules, k), search (rules, k)))))))

-- where each name is below the next, no two are found that are not
pub returns-clause-ascending : goal.returns-clause-ascending
returns-clause-ascending c = λ up.
    let a = c.args.archive.now in
    let news = c.args.news.now in
    ascending_answer a news c.is_sorted_by.result up
    (c.is_sorted_by.ensures.cases
    (λ s t. is_lt (slice_cmp nat_cmp (name_of a s.name) (name_of a t.name)))
    (always_returns_same _ _ _ (λ x r q k. (search (rules, k), search (rules, k)))))
