use Rattle.std.proofs.Common.{rules}
use Rattle.std.proofs.lemmas.List.Sorted.{IsNonDecreasingBy-from_sort_by}
use Rattle.cb_desk.specs.declared.present.replace.Renewal.{Renewal}
use Rattle.cb_desk.proofs.present.replace.sort_by_name.Goals as goal

pub returns-clause-rising : goal.returns-clause-rising
returns-clause-rising c =
    IsNonDecreasingBy-from_sort_by (λ (r : Renewal). r.name) c.sort_unstable_by.new.self
    c.sort_unstable_by.ensures.sorted
    (λ a r f k. (search (rules, k), search (rules, k)))
