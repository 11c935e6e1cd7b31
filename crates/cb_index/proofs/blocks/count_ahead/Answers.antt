use Rattle.std.proofs.Common.{rules}
use Rattle.std.proofs.lemmas.List.Sorted.{IsPartitionPoint-from_clause}
use Rattle.cb_index.proofs.blocks.count_ahead.Goals as goal

pub returns-clause-parted : goal.returns-clause-parted
returns-clause-parted t c =
    IsPartitionPoint-from_clause (t.B.Bound.is_ahead c.args.bound.now) c.args.items.now _
    c.partition_point.ensures.partitioned c.requires
    (λ a r f k. (search (rules, k), search (rules, k)))
