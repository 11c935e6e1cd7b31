use Rattle.std.proofs.Common.{rules}
use Rattle.std.proofs.lemmas.List.Sorted.{IsPartitionPoint-from_clause}
use Rattle.cb_desk.proofs.MarksFound.{is_below, marks_parted}
use Rattle.cb_desk.proofs.present.replaced.start_of.Goals as goal

pub returns-clause-parted : goal.returns-clause-parted
returns-clause-parted c =
    let a = c.args.archive.now in
    let marks = c.args.marks.now in
    IsPartitionPoint-from_clause (is_below a c.args.name.now) marks _
    c.partition_point.ensures.partitioned
    (marks_parted a c.args.name.now marks c.requires)
    (λ m r f k. (search (rules, k), search (rules, k)))
