-- What is sorted and has the same elements is the list in order.
use Rattle.std.proofs.Common.{rules, sym}
use Rattle.std.proofs.lemmas.List.Sorted.{IsPermutation-refl, answers_always}
use Rattle.cb_scan.specs.declared.facts.Def.{Def}
use Rattle.cb_scan.specs.Order.{def_key}
use Rattle.cb_scan.proofs.Merging.{def_earlier, sorted_from_ascending}
use Rattle.cb_scan.proofs.OrderLemmas.{def_exact, neighbours, sorted_is}
use Rattle.cb_scan.proofs.rules.order.order_defs.Goals as goal

pub returns : goal.returns
returns c =
    let moved = c.sort_unstable_by_key.ensures in
    sym (sorted_is def_key def_exact c.args.defs.now c.sort_unstable_by_key.new.self moved.permutation
    (neighbours def_key c.sort_unstable_by_key.new.self
    (moved.sorted def_key (answers_always _ _ _ (λ f a r q k. search rules)))))

pub returns-then-ascend : goal.returns-then-ascend
returns-then-ascend c =
    sym (sorted_is def_key def_exact c.args.defs.now c.args.defs.now (IsPermutation-refl c.args.defs.now)
    (sorted_from_ascending def_key (λ (d : Def). d.name.start) def_earlier 0 c.args.defs.now
    (sym c.if-ascend.ensures)))
