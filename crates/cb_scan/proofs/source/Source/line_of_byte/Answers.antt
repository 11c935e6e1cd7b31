use Rattle.std.proofs.Common.{◌∙◌, ap, length, arith, rules}
use Rattle.std.proofs.lemmas.List.Sorted.{IsPartitionPoint-from_clause}
use Rattle.cb_scan.specs.steps.LineStarts.{line_starts}
use Rattle.cb_scan.proofs.LinePlaces.{begun, line_of-few, starts_before, starts_parted}
use Rattle.cb_scan.proofs.source.Source.line_of_byte.Goals as goal

pub returns : goal.returns
returns c =
    let table = c.as_slice-starts.ensures.value ∙ c.self.invariant.1 ∙ ap line_starts c.self.view_is in
    let text = c.args.self.now in
    let starts = c.as_slice-starts.result.now in
    starts_before text starts table c.args.place c.partition_point.result c.requires
    c.partition_point.ensures.bound
    (IsPartitionPoint-from_clause (begun c.args.place) starts _ c.partition_point.ensures.partitioned
    (starts_parted text starts table c.args.place) (λ s r f k. (search (rules, k), search (rules, k))))

pub overflow_cast-result : goal.overflow_cast-result
overflow_cast-result c =
    omega (arith, returns c, line_of-few c.args.self.now c.args.place, c.self.invariant.0, ap length c.self.view_is, c.requires)
