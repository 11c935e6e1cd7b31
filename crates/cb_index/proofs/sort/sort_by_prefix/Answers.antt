use Rattle.std.proofs.Common.{rules}
use Rattle.std.proofs.lemmas.List.Sorted.{IsNonDecreasingBy-from_sort_by_key}
use Rattle.cb_index.specs.steps.Quick.{prefix_of}
use Rattle.cb_index.proofs.sort.sort_by_prefix.Goals as goal

pub returns-clause-order : goal.returns-clause-order
returns-clause-order c =
    IsNonDecreasingBy-from_sort_by_key prefix_of c.sort_unstable_by_key.new.self
    c.sort_unstable_by_key.ensures.sorted (λ a r f k. (search (rules, k), search rules))
