use Rattle.std.proofs.Common.{rules, Bool}
use Rattle.std.proofs.lemmas.List.Sorted.{IsPartitionPoint-from_clause, IsPartitionedBy-ltb}
use Rattle.std.specs.Prelude.{nat_lt}
use Rattle.cb_scan.specs.declared.facts.Def.{Def}
use Rattle.cb_lsp.proofs.DefKinds.{kind-found, starts-up}
use Rattle.cb_lsp.proofs.callers.defs_before.Goals as goal

pub returns-clause-kind : goal.returns-clause-kind
returns-clause-kind c =
    let test : Def → Bool = λ d. nat_lt d.name.start c.args.place in
    kind-found c.args.place c.partition_point.result c.args.defs.now c.requires
    c.partition_point.ensures.bound
    (IsPartitionPoint-from_clause test c.args.defs.now c.partition_point.result
    c.partition_point.ensures.partitioned
    (IsPartitionedBy-ltb (λ (d : Def). d.name.start) c.args.defs.now c.args.place
    (starts-up c.args.defs.now c.requires))
    (λ a r f k. (search (rules, k), search (rules, k))))
