use Rattle.std.proofs.Common.{rules, suc, Bool, arith}
use Rattle.std.proofs.lemmas.Bool.Decides.{nat_tests}
use Rattle.std.proofs.lemmas.List.Sorted.{IsPartitionPoint-from_clause, IsPartitionedBy-leb}
use Rattle.std.specs.Prelude.{nat_lt}
use Rattle.cb_index.specs.declared.entry.Posting.{Posting}
use Rattle.cb_index.proofs.SortLemmas.{parted_at}
use Rattle.cb_index.proofs.sort.start_of.Goals as goal

pub returns : goal.returns
returns c =
    let test : Posting → Bool = λ e. nat_lt e.prefix c.args.prefix in
    parted_at test (c.args.prefix) c.partition_point.result c.args.entries.now
    (λ e is. grind (arith, nat_tests, is)) (λ e isnt. grind (arith, nat_tests, isnt))
    c.partition_point.ensures.bound
    (IsPartitionPoint-from_clause test c.args.entries.now c.partition_point.result
    c.partition_point.ensures.partitioned
    (IsPartitionedBy-leb (λ (e : Posting). suc e.prefix) c.args.entries.now c.args.prefix
    (λ i j d upward below. omega (arith, c.requires i j d upward below)))
    (λ a r f k. (search (rules, k), search (rules, k))))
